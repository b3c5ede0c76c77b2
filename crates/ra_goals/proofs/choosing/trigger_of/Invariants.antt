use Rattle.std.proofs.Common.{◌≡◌, map, option_map}
use Rattle.ra_condition.specs.Contents.{trigger_contents}
use Rattle.ra_set.specs.Contents.{item_contents}
use Rattle.ra_goals.specs.Choosing as spec
use Rattle.ra_goals.proofs.ChooseLemmas.{first_of}
use Rattle.ra_goals.proofs.choosing.trigger_of.Given as goal

-- the first of the items that are left has the id, or the one that was found is behind them
abbrev pub invariant-loop-item : goal.invariant-loop-item
invariant-loop-item l =
    spec.trigger_of l.id (map item_contents l.fn.set.items.items) ≡ first_of
    (spec.trigger_of l.id (map item_contents l.items.items)) (option_map trigger_contents l.found)

abbrev pub decreases-loop-item : goal.decreases-loop-item
decreases-loop-item l = goal.left-loop-item l
