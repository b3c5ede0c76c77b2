use Rattle.std.proofs.Common.{length}
use Rattle.ra_richpresence.proofs.Turns.{RunningSoFar}
use Rattle.ra_richpresence.proofs.pieces.take_run.Given as goal

abbrev pub invariant-loop-cursor : goal.invariant-loop-cursor
invariant-loop-cursor l = RunningSoFar l.fn.cursor.rest.now l.text.items l.cursor.rest.now

abbrev pub decreases-loop-cursor : goal.decreases-loop-cursor
decreases-loop-cursor l = length l.cursor.rest.now
