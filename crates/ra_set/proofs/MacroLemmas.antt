-- The macros among pieces, counted one by one, and the first line with too many.
use Rattle.std.proofs.Common.{◌≡◌, ◌∙◌, ◌≤◌, ◌<◌, ◌+◌, ℕ, true, false, List, [], ◌∷◌, length, map, take, get_or, Option}
use Rattle.std.proofs.Common.{Some, None, is_some, refl, ap, arith, length-append, length-take}
use Rattle.std.specs.List.{filter_map, cons_option}
use Rattle.std.proofs.lemmas.List.{length-map}
use Rattle.std.proofs.lemmas.List.Elements.{filter_map-append}
use Rattle.ra_richpresence.specs.Contents.{piece_contents, value_in}
use Rattle.ra_richpresence.specs.declared.piece.Piece.{Piece}
use Rattle.ra_richpresence.proofs.ShownLemmas.{map-more}

some-length : {X Y : Type 0} (h : X → Option Y) (xs : List X) → length (filter_map h xs) ≤ length xs
some-length h [] = omega arith
some-length {X} {Y} h (x ∷ xs) = cases (h x) (some-length h xs) where
  cases : (found : Option Y) → length (filter_map h xs) ≤ length xs
      → length (cons_option found (filter_map h xs)) ≤ length (x ∷ xs)
  cases None le = omega arith
  cases (Some y) le = omega arith

-- how many macros stand among the first pieces
abbrev pub macros_before : List Piece → ℕ → ℕ
macros_before pieces i = length (filter_map value_in (map piece_contents (take i pieces)))

-- no more macros than pieces so far
pub macros-so_far : (pieces : List Piece) (i : ℕ) → macros_before pieces i ≤ i
macros-so_far pieces i = let few = some-length value_in (map piece_contents (take i pieces)) in
    omega (arith, few, length-map (take i pieces) piece_contents, length-take i pieces)

module _ (pieces : List Piece) (i : ℕ) (piece : Piece) (less : i < length pieces) (is : piece
    ≡ get_or pieces i piece) where
  next : macros_before pieces (i + 1)
      ≡ macros_before pieces i + length (cons_option (value_in (piece_contents piece)) [])
  next = ap (λ ps. length (filter_map value_in ps)) (map-more piece_contents pieces i piece less is)
      ∙ ap length
      (filter_map-append value_in (map piece_contents (take i pieces)) (piece_contents piece ∷ []))
      ∙ length-append (filter_map value_in (map piece_contents (take i pieces)))
      (cons_option (value_in (piece_contents piece)) [])

  -- a macro is one more
  pub macro-next : is_some (value_in (piece_contents piece)) ≡ true → macros_before pieces (i + 1)
      ≡ macros_before pieces i + 1
  macro-next some = next ∙ cases (value_in (piece_contents piece)) some where
    cases : {V : Type 0} (found : Option V) → is_some found ≡ true
        → macros_before pieces i + length (cons_option found []) ≡ macros_before pieces i + 1
    cases (Some v) e = refl
    cases None e = absurd (cc e)

  -- a text is none
  pub text-next : is_some (value_in (piece_contents piece)) ≡ false → macros_before pieces (i + 1)
      ≡ macros_before pieces i
  text-next none = next ∙ cases (value_in (piece_contents piece)) none where
    cases : {V : Type 0} (found : Option V) → is_some found ≡ false
        → macros_before pieces i + length (cons_option found []) ≡ macros_before pieces i
    cases (Some v) e = absurd (cc e)
    cases None e = omega arith
