use Rattle.std.proofs.Common.{◌≡◌, ℕ, ◌-◌, suc, None, length, slice_index_or}
use Rattle.ra_review.proofs.first_lines.make_room.Given as goal

-- the row says what it said
abbrev pub invariant-loop-lines : goal.invariant-loop-lines
invariant-loop-lines l = (other : ℕ) → slice_index_or l.lines.items other None
    ≡ slice_index_or l.initial.lines.items other None

-- the places that are missing
abbrev pub decreases-loop-lines : goal.decreases-loop-lines
decreases-loop-lines l = suc l.id - length l.lines.items
