use Rattle.ra_indirect.proofs.BucketLemmas.{IsLeft}
use Rattle.ra_indirect.proofs.buckets.Buckets.find.Given as goal

-- the node is not at a number from the place on
abbrev pub invariant-loop-place : goal.invariant-loop-place
invariant-loop-place l = IsLeft l.self.half l.nodes l.node l.place

abbrev pub decreases-loop-place : goal.decreases-loop-place
decreases-loop-place l = l.place
