use Rattle.std.proofs.Common.{length}
use Rattle.ra_review.proofs.DisplayLemmas.{PassesPieces}
use Rattle.ra_review.proofs.display.pass_pieces.Given as goal

-- pieces were passed so far
abbrev pub invariant-loop-alloc : goal.invariant-loop-alloc
invariant-loop-alloc l = PassesPieces l.fn.cursor.rest.now l.cursor.rest.now

abbrev pub decreases-loop-alloc : goal.decreases-loop-alloc
decreases-loop-alloc l = length l.cursor.rest.now
