use Rattle.ra_meaning.proofs.CallLemmas as calls
use Rattle.ra_meaning.proofs.SetFiles.{complete_shape}
use Rattle.ra_meaning.proofs.laws.calls_succeed.Goals as goal

pub returns-clause-complete : goal.returns-clause-complete
returns-clause-complete c = λ set complete. calls.calls_succeed set (complete_shape set complete)

pub returns-clause-shaped : goal.returns-clause-shaped
returns-clause-shaped c = calls.calls_succeed
