use Rattle.std.proofs.Common.{◌≡◌, [], map, take}
use Rattle.std.specs.List.{filter_map}
use Rattle.ra_richpresence.specs.Contents.{piece_contents, value_in}
use Rattle.ra_display.proofs.counted.are_texts.Given as goal

abbrev pub invariant-loop-piece : goal.invariant-loop-piece
invariant-loop-piece l = filter_map value_in (map piece_contents (take l.piece-index l.pieces)) ≡ []
