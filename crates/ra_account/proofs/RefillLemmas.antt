-- A vector whose elements were written anew.
use Rattle.std.proofs.Common.{◌≡◌, ℕ, List, ◌++◌, length, take, drop, ap, ◌∙◌}
use Rattle.std.proofs.Math.Seq.{take-append_seam}

-- as many elements as there were are those that were written
pub refilled : {A : Type 0} (n : ℕ) (new old : List A) → n ≡ length new → take n (new ++ drop (length new) old) ≡ new
refilled n new old many = ap (λ k. take k (new ++ drop (length new) old)) many
    ∙ take-append_seam new (drop (length new) old)
