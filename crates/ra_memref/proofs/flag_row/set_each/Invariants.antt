use Rattle.ra_memref.specs.Flags.{SetsBetween}
use Rattle.ra_memref.proofs.flag_row.set_each.Given as goal

abbrev pub invariant-loop-place : goal.invariant-loop-place
invariant-loop-place l = SetsBetween l.from l.place l.initial.flags.items l.flags.items
