use Rattle.std.proofs.Common.{◌≡◌, ◌++◌, map, take}
use Rattle.ra_review.specs.Shown.{shown_byte}
use Rattle.ra_review.proofs.shown.put_shown.Given as goal

-- the bytes so far
abbrev pub invariant-loop-byte : goal.invariant-loop-byte
invariant-loop-byte l = l.out.items ≡ l.initial.out.items ++ map shown_byte (take l.byte-index l.front)
