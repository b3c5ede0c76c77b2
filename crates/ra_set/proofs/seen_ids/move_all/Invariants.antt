use Rattle.std.proofs.Common.{◌≡◌, ℕ, length}
use Rattle.ra_set.specs.Seen.{is_among}
use Rattle.ra_set.proofs.seen_ids.move_all.Given as goal

-- the ids of both are those of before
abbrev pub invariant-loop-id : goal.invariant-loop-id
invariant-loop-id l = (id : ℕ) → is_among l.rising.items l.earlier id ≡ is_among l.fn.rising.items l.fn.earlier id

abbrev pub decreases-loop-id : goal.decreases-loop-id
decreases-loop-id l = length l.rising.items
