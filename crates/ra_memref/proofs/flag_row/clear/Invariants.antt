use Rattle.ra_memref.proofs.FlagLemmas.{AreCleared}
use Rattle.ra_memref.proofs.flag_row.clear.Given as goal

abbrev pub invariant-loop-place : goal.invariant-loop-place
invariant-loop-place l = AreCleared l.initial.flags.items l.flags.items l.from l.place
