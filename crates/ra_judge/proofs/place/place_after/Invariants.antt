use Rattle.std.proofs.Common.{◌≡◌, ◌+◌, ◌≤◌, length}
use Rattle.ra_judge.specs.Places as spec
use Rattle.ra_judge.proofs.place.place_after.Given as goal

-- the place is that behind what was read
abbrev pub invariant-loop-byte : goal.invariant-loop-byte
invariant-loop-byte l = record {
  left : spec.place_after l.text spec.first_place ≡ spec.place_after l.rest l.place;
  line : l.place.line + length l.rest ≤ 1 + length l.text;
  column : l.place.column + length l.rest ≤ 1 + length l.text;
}

abbrev pub decreases-loop-byte : goal.decreases-loop-byte
decreases-loop-byte l = length l.rest
