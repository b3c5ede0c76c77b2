use Rattle.ra_memref.proofs.Indexed.{AreStanding}
use Rattle.ra_memref.proofs.watches.Watches.new.Given as goal

abbrev pub invariant-loop-cell : goal.invariant-loop-cell
invariant-loop-cell l = AreStanding l.listed l.places.items l.pages l.cell
