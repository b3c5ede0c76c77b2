use Rattle.std.proofs.Common.{◌≡◌, take}
use Rattle.std.specs.List.{sum_by}
use Rattle.ra_richpresence.specs.Contents.{piece_contents}
use Rattle.ra_set.specs.Counting.{piece_conditions}
use Rattle.ra_set.proofs.counting.in_pieces.Given as goal

abbrev pub invariant-loop-piece : goal.invariant-loop-piece
invariant-loop-piece l = l.count
    ≡ sum_by (λ piece. piece_conditions (piece_contents piece)) (take l.piece-index l.pieces)
