-- The values of the macros among the pieces of a line, up to one of them and from it on.
use Rattle.std.proofs.Common.{◌≡◌, ℕ, ◌+◌, ◌<◌, List, [], ◌∷◌, ◌++◌, length, map, take, drop, get_or, sym, ◌∙◌, ap}
use Rattle.std.specs.List.{cons_option, filter_map}
use Rattle.std.proofs.lemmas.List.{map-append, take-append-drop}
use Rattle.std.proofs.lemmas.List.Elements.{filter_map-append}
use Rattle.ra_richpresence.specs.declared.piece.Piece.{Piece}
use Rattle.ra_richpresence.specs.Contents.{piece_contents, value_in}
use Rattle.ra_member.proofs.GrowthLemmas.{taken_next, dropped_next}
use Rattle.ra_display.proofs.SteppedLines.{macros_in}

-- the values of the macros up to a piece, and behind it
pub macros_before : (pieces : List Piece) (k : ℕ) (piece : Piece) → k < length pieces → piece
    ≡ get_or pieces k piece → macros_in (take (k + 1) pieces)
    ≡ macros_in (take k pieces) ++ filter_map value_in (piece_contents piece ∷ [])
macros_before pieces k piece within is =
    ap (filter_map value_in) (taken_next piece_contents pieces k piece within is)
    ∙ filter_map-append value_in (map piece_contents (take k pieces)) (piece_contents piece ∷ [])

pub macros_behind : (pieces : List Piece) (k : ℕ) (piece : Piece) → k < length pieces → piece
    ≡ get_or pieces k piece → macros_in (drop k pieces)
    ≡ cons_option (value_in (piece_contents piece)) (macros_in (drop (k + 1) pieces))
macros_behind pieces k piece within is = ap (filter_map value_in) (dropped_next piece_contents pieces k piece within is)

-- the values in front of a piece and from it on
pub macros_split : (pieces : List Piece) (k : ℕ) → macros_in pieces
    ≡ macros_in (take k pieces) ++ macros_in (drop k pieces)
macros_split pieces k =
    ap macros_in (sym (take-append-drop k pieces))
    ∙ ap (filter_map value_in) (map-append piece_contents (take k pieces) (drop k pieces))
    ∙ filter_map-append value_in (map piece_contents (take k pieces)) (map piece_contents (drop k pieces))
