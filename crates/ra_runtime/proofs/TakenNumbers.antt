-- Kept numbers that are set one after the other.
use Rattle.std.proofs.Common.{◌≡◌, ℕ, zero, suc, ◌+◌, ◌<◌, ◌≤◌, List, [], ◌∷◌, ◌++◌, length, length-append, take, drop}
use Rattle.std.proofs.Common.{slice_set, slice_index, refl, sym, ◌∙◌, ap, arith, add-one}
use Rattle.std.proofs.lemmas.List.{length-take-le, length-drop}

-- so many numbers, and then those that were there
pub row_long : (k : ℕ) (numbers olds : List ℕ) → length numbers ≡ length olds → k ≤ length numbers
    → length (take k numbers ++ drop k olds) ≡ length olds
row_long k numbers olds same within =
    omega (
      arith,
      length-append (take k numbers) (drop k olds),
      length-take-le k numbers within,
      length-drop k olds,
      same,
      within,
    )

set_next : (k : ℕ) (numbers olds : List ℕ) → length numbers ≡ length olds → k < length numbers
    → slice_set (take k numbers ++ drop k olds) k (slice_index numbers k)
    ≡ take (suc k) numbers ++ drop (suc k) olds
set_next k [] olds same less = absurd (omega (arith, less))
set_next k (x ∷ xs) [] same less = absurd (omega (arith, same))
set_next zero (x ∷ xs) (y ∷ ys) same less = refl
set_next (suc k) (x ∷ xs) (y ∷ ys) same less =
    ap (λ row. x ∷ row) (set_next k xs ys (omega (arith, same)) (omega (arith, less)))

-- one number more
pub row_next : (k : ℕ) (numbers olds : List ℕ) → length numbers ≡ length olds → k < length numbers
    → slice_set (take k numbers ++ drop k olds) k (slice_index numbers k)
    ≡ take (k + 1) numbers ++ drop (k + 1) olds
row_next k numbers olds same less =
    set_next k numbers olds same less ∙ ap (λ n. take n numbers ++ drop n olds) (sym (add-one k))
