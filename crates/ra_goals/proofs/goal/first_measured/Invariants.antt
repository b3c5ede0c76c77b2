use Rattle.std.proofs.Common.{◌≡◌, length}
use Rattle.ra_goals.specs.Goals as spec
use Rattle.ra_goals.proofs.goal.first_measured.Given as goal

-- what was looked at does not measure
abbrev pub invariant-loop-condition : goal.invariant-loop-condition
invariant-loop-condition l = spec.first_measured l.conditions ≡ spec.first_measured l.rest

abbrev pub decreases-loop-condition : goal.decreases-loop-condition
decreases-loop-condition l = length l.rest
