use Rattle.std.proofs.Common.{◌≡◌, map, take, drop}
use Rattle.ra_richpresence.specs.Contents.{piece_contents}
use Rattle.ra_richpresence.proofs.ShownLemmas.{shown_by}
use Rattle.ra_richpresence.proofs.shown_line.behind_line.Given as goal

abbrev pub invariant-loop-piece : goal.invariant-loop-piece
invariant-loop-piece l = l.left ≡ drop (shown_by (map piece_contents (take l.piece-index l.line.pieces.items))) l.values
