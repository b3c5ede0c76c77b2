use Rattle.ra_lint.proofs.SoundLemmas.{sound}
use Rattle.ra_lint.proofs.laws.warnings_hold.Goals as goal

pub returns : goal.returns
returns c = sound
