use Rattle.ra_normal.proofs.AlikeLemmas.{alike}
use Rattle.ra_normal.proofs.laws.legacy_parts_are_condition_parts.Goals as goal

pub returns : goal.returns
returns c start history terms hits old part = alike start history terms hits old part
