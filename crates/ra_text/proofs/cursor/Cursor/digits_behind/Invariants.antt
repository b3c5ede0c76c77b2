use Rattle.std.proofs.Common.{length}
use Rattle.ra_text.proofs.Saturation.{DigitsSoFar}
use Rattle.ra_text.proofs.cursor.Cursor.digits_behind.Given as goal

abbrev pub invariant-loop-rest : goal.invariant-loop-rest
invariant-loop-rest l = DigitsSoFar l.base l.first l.fn.self.rest.now l.number l.rest

abbrev pub decreases-loop-rest : goal.decreases-loop-rest
decreases-loop-rest l = length l.rest
