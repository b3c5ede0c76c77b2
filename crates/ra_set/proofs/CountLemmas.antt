-- Sums over lists that are seen by their contents.
use Rattle.std.proofs.Common.{◌≡◌, ◌∙◌, ℕ, ◌+◌, ◌<◌, ◌≤◌, List, [], ◌∷◌, length, take, get_or, map, refl, sym, ap}
use Rattle.std.proofs.Common.{subst, zero-add}
use Rattle.std.specs.List.{fold, sum_by, filter_map}
use Rattle.ra_richpresence.specs.Contents.{PieceContents, Bytes, Shows, value_in}
use Rattle.ra_set.specs.Counting.{piece_conditions}
use Rattle.ra_set.specs.Limits.{value_conditions}
use Rattle.std.proofs.lemmas.List.Sums.{sum_by_more_le, sum_by-cons}

module _ {X Y : Type 0} (f : Y → ℕ) (g : X → Y) where
  sum-from : (so_far : ℕ) (xs : List X) → fold (λ a y. a + f y) so_far (map g xs) ≡ fold (λ a x. a + f (g x)) so_far xs
  sum-from so_far [] = refl
  sum-from so_far (x ∷ xs) = sum-from (so_far + f (g x)) xs

  -- a sum over what is seen
  pub sum-map : (xs : List X) → sum_by f (map g xs) ≡ sum_by (λ x. f (g x)) xs
  sum-map xs = sum-from 0 xs

-- the conditions of the macros among pieces are those of the pieces
pub pieces_sum : (pieces : List PieceContents)
    → sum_by value_conditions (filter_map value_in pieces) ≡ sum_by piece_conditions pieces
pieces_sum [] = refl
pieces_sum (Bytes text ∷ pieces) = pieces_sum pieces ∙ sym
    (sum_by-cons piece_conditions (Bytes text) pieces ∙ zero-add (sum_by piece_conditions pieces))
pieces_sum (Shows name value ∷ pieces) = sum_by-cons value_conditions value
    (filter_map value_in pieces) ∙ ap (λ n. value_conditions value + n) (pieces_sum pieces)
    ∙ sym (sum_by-cons piece_conditions (Shows name value) pieces)
