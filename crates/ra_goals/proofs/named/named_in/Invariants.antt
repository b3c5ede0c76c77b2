use Rattle.std.proofs.Common.{◌≡◌, ◌++◌, length, map}
use Rattle.ra_goals.specs.Named.{is_named}
use Rattle.ra_goals.proofs.named.named_in.Given as goal

-- the goals that are left are not yet judged
abbrev pub invariant-loop-goal : goal.invariant-loop-goal
invariant-loop-goal l = l.named.items ++ map (is_named l.fn.ids) l.rest ≡ map (is_named l.fn.ids) l.fn.goals

abbrev pub decreases-loop-goal : goal.decreases-loop-goal
decreases-loop-goal l = length l.rest
