use Rattle.ra_lint.proofs.TreeLemmas.{value_in}
use Rattle.ra_lint.proofs.laws.ranges_hold.Goals as goal

pub returns : goal.returns
returns c start history tree small = (value_in start history tree small).0
