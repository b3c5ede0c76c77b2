use Rattle.std.proofs.Common.{◌≡◌, take}
use Rattle.ra_value.specs.Steps.{greatest}
use Rattle.ra_value.proofs.greatest.greatest_of.Given as goal

-- the greatest so far
abbrev pub invariant-loop-place : goal.invariant-loop-place
invariant-loop-place l = l.greatest ≡ greatest (take l.place l.numbers)
