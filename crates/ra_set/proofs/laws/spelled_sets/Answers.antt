use Rattle.ra_set.proofs.SetSpelling.{set-spelled, spelled-set}
use Rattle.ra_set.proofs.laws.spelled_sets.Goals as goal

pub returns : goal.returns
returns c = λ set script. (λ h. set-spelled set script h.0 h.1, spelled-set set script)
