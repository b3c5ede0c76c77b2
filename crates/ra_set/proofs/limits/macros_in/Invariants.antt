use Rattle.std.proofs.Common.{◌≡◌, length, map, take}
use Rattle.std.specs.List.{filter_map}
use Rattle.ra_richpresence.specs.Contents.{piece_contents, value_in}
use Rattle.ra_set.proofs.limits.macros_in.Given as goal

abbrev pub invariant-loop-piece : goal.invariant-loop-piece
invariant-loop-piece l = l.count ≡ length (filter_map value_in (map piece_contents (take l.piece-index l.pieces)))
