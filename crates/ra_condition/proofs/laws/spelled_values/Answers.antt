use Rattle.ra_condition.specs.Canonical.{value_text}
use Rattle.ra_condition.proofs.Spelling.{value-spelled}
use Rattle.ra_condition.proofs.Structure.{value-structure}
use Rattle.ra_condition.proofs.laws.spelled_values.Goals as goal

pub returns : goal.returns
returns c = λ v. (λ h. (value_text v, value-spelled v h), λ h. value-structure h.0 v h.1)
