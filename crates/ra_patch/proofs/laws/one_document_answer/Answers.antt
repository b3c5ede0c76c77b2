use Rattle.ra_patch.proofs.AnswerLemmas.{same-text, one-document_refusal, imported-not_refused}
use Rattle.ra_patch.proofs.laws.one_document_answer.Goals as goal

pub returns-clause-text : goal.returns-clause-text
returns-clause-text c = same-text

pub returns-clause-refusal : goal.returns-clause-refusal
returns-clause-refusal c = one-document_refusal

pub returns-clause-apart : goal.returns-clause-apart
returns-clause-apart c = imported-not_refused
