-- A list as its elements one by one.
use Rattle.std.proofs.Common.{◌≡◌, ℕ, zero, suc, ◌+◌, List, [], ◌∷◌, length, get_or, drop, ap, ◌∙◌, arith}
use Rattle.std.proofs.Math.Seq.{drop-cons}
use Rattle.std.proofs.lemmas.List.{drop_all}

-- the elements from a place on
abbrev pub elements : List ℕ → (place count : ℕ) → List ℕ
elements xs place zero = []
elements xs place (suc count) = get_or xs place 0 ∷ elements xs (suc place) count

pub elements_are : (xs : List ℕ) (place count : ℕ) → place + count ≡ length xs → drop place xs ≡ elements xs place count
elements_are xs place zero whole = drop_all place xs (omega (arith, whole))
elements_are xs place (suc count) whole =
    drop-cons xs place 0 (omega (arith, whole))
    ∙ ap (λ t. get_or xs place 0 ∷ t) (elements_are xs (suc place) count (omega (arith, whole)))
