use Rattle.std.proofs.Common.{◌≤◌, length}
use Rattle.ra_review.proofs.FrontLemmas.{FrontSoFar}
use Rattle.ra_review.proofs.front.review_front.Given as goal

-- the lines so far were judged
abbrev pub invariant-loop-rest : goal.invariant-loop-rest
invariant-loop-rest l = FrontSoFar l.fn.bytes l.rest l.report × (length l.rest ≤ length l.fn.bytes)

abbrev pub decreases-loop-rest : goal.decreases-loop-rest
decreases-loop-rest l = length l.rest
