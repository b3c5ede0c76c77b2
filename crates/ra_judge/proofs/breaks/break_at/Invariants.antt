use Rattle.std.proofs.Common.{◌≡◌, ◌+◌, length}
use Rattle.ra_judge.specs.Judging as spec
use Rattle.ra_judge.proofs.breaks.break_at.Given as goal

-- what was read has no break
abbrev pub invariant-loop-byte : goal.invariant-loop-byte
invariant-loop-byte l = record {
  left : spec.break_at 0 l.text ≡ spec.break_at l.at l.rest;
  count : l.at + length l.rest ≡ length l.text;
}

abbrev pub decreases-loop-byte : goal.decreases-loop-byte
decreases-loop-byte l = length l.rest
