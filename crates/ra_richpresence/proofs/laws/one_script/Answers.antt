use Rattle.ra_richpresence.proofs.ScriptForms.{script-once}
use Rattle.ra_richpresence.proofs.laws.one_script.Goals as goal

pub returns : goal.returns
returns c = script-once
