use Rattle.std.proofs.Common.{◌≡◌, ◌++◌, length, map}
use Rattle.ra_set.specs.Contents.{item_contents}
use Rattle.ra_goals.specs.Goals as spec
use Rattle.ra_goals.proofs.goals.goals_of.Given as goal

-- the items that are left are not yet looked at
abbrev pub invariant-loop-item : goal.invariant-loop-item
invariant-loop-item l = l.goals.items ++ map spec.goal_of (map item_contents l.rest)
    ≡ map spec.goal_of (map item_contents l.items)

abbrev pub decreases-loop-item : goal.decreases-loop-item
decreases-loop-item l = length l.rest
