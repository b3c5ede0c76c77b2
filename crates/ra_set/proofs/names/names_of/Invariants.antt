use Rattle.std.proofs.Common.{length}
use Rattle.ra_set.proofs.CutLemmas.{NamedSoFar}
use Rattle.ra_set.proofs.names.names_of.Given as goal

abbrev pub invariant-lines : goal.invariant-lines
invariant-lines l = NamedSoFar l.items.items l.left l.bytes

abbrev pub decreases-lines : goal.decreases-lines
decreases-lines l = length l.left
