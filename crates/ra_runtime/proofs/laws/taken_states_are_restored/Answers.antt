use Rattle.ra_runtime.proofs.TakenStates.{taken_as_restored}
use Rattle.ra_runtime.proofs.laws.taken_states_are_restored.Goals as goal

pub returns : goal.returns
returns c = taken_as_restored
