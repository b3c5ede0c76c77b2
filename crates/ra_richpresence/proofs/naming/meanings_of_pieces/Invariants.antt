use Rattle.std.proofs.Common.{◌≡◌, ℕ, List, map, take}
use Rattle.ra_value_format.specs.declared.format.Format.{Format}
use Rattle.ra_richpresence.specs.Meanings.{FindsNames, meanings_in}
use Rattle.ra_richpresence.specs.Parts.{LookupContents, piece_contents}
use Rattle.ra_richpresence.proofs.naming.meanings_of_pieces.Given as goal

abbrev pub invariant-loop-piece : goal.invariant-loop-piece
invariant-loop-piece l =
    (lookups : List LookupContents) (formats : List (List ℕ × Format))
    → FindsNames lookups 0 formats l.names → l.meanings.items
    ≡ meanings_in lookups formats (map piece_contents (take l.piece-index l.pieces))
