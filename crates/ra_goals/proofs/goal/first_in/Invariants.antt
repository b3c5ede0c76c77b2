use Rattle.std.proofs.Common.{◌≡◌, length, map}
use Rattle.ra_condition.specs.Contents.{group_contents}
use Rattle.ra_goals.specs.Goals as spec
use Rattle.ra_goals.proofs.goal.first_in.Given as goal

-- what was looked at does not measure
abbrev pub invariant-loop-group : goal.invariant-loop-group
invariant-loop-group l = spec.first_in (map group_contents l.groups) ≡ spec.first_in (map group_contents l.rest)

abbrev pub decreases-loop-group : goal.decreases-loop-group
decreases-loop-group l = length l.rest
