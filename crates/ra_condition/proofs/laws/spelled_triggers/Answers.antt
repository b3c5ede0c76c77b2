use Rattle.ra_condition.specs.Canonical.{trigger_text}
use Rattle.ra_condition.proofs.Spelling.{trigger-spelled}
use Rattle.ra_condition.proofs.Structure.{trigger-structure}
use Rattle.ra_condition.proofs.laws.spelled_triggers.Goals as goal

pub returns : goal.returns
returns c = λ v. (λ h. (trigger_text v, trigger-spelled v h), λ h. trigger-structure h.0 v h.1)
