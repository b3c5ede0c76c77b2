use Rattle.std.proofs.Common.{length, map}
use Rattle.ra_richpresence.specs.Contents.{piece_contents}
use Rattle.ra_richpresence.specs.Reading.{pieces_of}
use Rattle.ra_richpresence.proofs.Turns.{PiecesSoFar}
use Rattle.ra_richpresence.proofs.pieces.read_pieces.Given as goal

abbrev pub invariant-loop-alloc : goal.invariant-loop-alloc
invariant-loop-alloc l = PiecesSoFar (map piece_contents l.pieces.items) l.cursor.rest.now
    (pieces_of l.fn.cursor.rest.now)

abbrev pub decreases-loop-alloc : goal.decreases-loop-alloc
decreases-loop-alloc l = length l.cursor.rest.now
