use Rattle.std.proofs.Common.{length}
use Rattle.ra_review.proofs.WalkLemmas.{WalkSoFar}
use Rattle.ra_review.proofs.script.walk.Given as goal

-- the lines so far were gone over
abbrev pub invariant-loop-rest : goal.invariant-loop-rest
invariant-loop-rest l = WalkSoFar l.text l.rest l.walked

abbrev pub decreases-loop-rest : goal.decreases-loop-rest
decreases-loop-rest l = length l.rest
