-- The need as it grows, entry by entry.
use Rattle.std.proofs.Common.{◌≡◌, ℕ, zero, suc, ◌+◌, ◌-◌, ◌<◌, ◌≤◌, List, refl, arith, ◌∙◌, length, nat_lt, false}
use Rattle.std.proofs.lemmas.Bool.{le-ltb}
use Rattle.ra_text.specs.Words.{word_at}
use Rattle.ra_progress.specs.Layout.{need_from, up_to, entry_after}

-- the next entry's length is read
pub need_step : (bytes : List ℕ) (left at need : ℕ) → 0 < left → need_from bytes left at need
    ≡ up_to bytes (need + word_at bytes (at + 16))
    (need_from bytes (left - 1) (entry_after bytes at) (need + word_at bytes (at + 16)))
need_step bytes zero at need some = absurd (omega arith)
need_step bytes (suc more) at need some = let one : suc more - 1 ≡ more = omega arith in rw one refl

-- and where the need does not pass the length, the rest follows
pub need_grows : (bytes : List ℕ) (left at need size : ℕ) → 0 < left → size
    ≡ word_at bytes (at + 16) → need + size ≤ length bytes → need_from bytes left at need
    ≡ need_from bytes (left - 1) (at + (20 + size)) (need + size)
need_grows bytes left at need size some is within =
    let behind : at + 20 + size ≡ at + (20 + size) = omega arith in
    let fine : nat_lt (length bytes) (need + size) ≡ false = le-ltb (length bytes) (need + size) within in
    need_step bytes left at need some ∙ rw (← is, fine, behind) refl
