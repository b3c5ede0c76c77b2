use Rattle.ra_chain.proofs.Marks.{AreMarked}
use Rattle.ra_chain.proofs.order.pausing_of.Given as goal

-- the conditions from the place on are marked
abbrev pub invariant-loop-place : goal.invariant-loop-place
invariant-loop-place l = AreMarked l.conditions l.marks.items l.place l.pauses
