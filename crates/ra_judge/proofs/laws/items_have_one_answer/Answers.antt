use Rattle.ra_judge.proofs.OneJudgement.{accepted_alone, one_reason}
use Rattle.ra_judge.proofs.laws.items_have_one_answer.Goals as goal

pub returns-clause-refusal : goal.returns-clause-refusal
returns-clause-refusal c = one_reason

pub returns-clause-apart : goal.returns-clause-apart
returns-clause-apart c = accepted_alone
