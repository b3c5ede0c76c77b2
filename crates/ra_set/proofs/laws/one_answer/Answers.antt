use Rattle.ra_set.proofs.AnswerLemmas.{same-set, one-refusal, set-not_refused}
use Rattle.ra_set.proofs.laws.one_answer.Goals as goal

pub returns-clause-set : goal.returns-clause-set
returns-clause-set c = same-set

pub returns-clause-refusal : goal.returns-clause-refusal
returns-clause-refusal c = one-refusal

pub returns-clause-apart : goal.returns-clause-apart
returns-clause-apart c = set-not_refused
