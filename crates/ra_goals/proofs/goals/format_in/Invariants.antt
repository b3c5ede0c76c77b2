use Rattle.std.proofs.Common.{◌≡◌, length}
use Rattle.ra_goals.specs.Goals as spec
use Rattle.ra_goals.proofs.goals.format_in.Given as goal

-- what was looked at is no leaderboard of the id
abbrev pub invariant-loop-goal : goal.invariant-loop-goal
invariant-loop-goal l = spec.format_in l.id l.goals ≡ spec.format_in l.id l.rest

abbrev pub decreases-loop-goal : goal.decreases-loop-goal
decreases-loop-goal l = length l.rest
