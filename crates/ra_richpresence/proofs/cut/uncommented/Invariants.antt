use Rattle.std.proofs.Common.{length}
use Rattle.ra_richpresence.proofs.Splits.{CutSoFar}
use Rattle.ra_richpresence.proofs.cut.uncommented.Given as goal

abbrev pub invariant-loop-rest : goal.invariant-loop-rest
invariant-loop-rest l = CutSoFar l.line l.rest

abbrev pub decreases-loop-rest : goal.decreases-loop-rest
decreases-loop-rest l = length l.rest
