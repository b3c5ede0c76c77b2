use Rattle.ra_memref.specs.Flags.{SetsBetween}
use Rattle.ra_memref.proofs.flags.Flags.set_each.Given as goal

abbrev pub invariant-loop-place : goal.invariant-loop-place
invariant-loop-place l = SetsBetween l.from l.place l.initial.self l.self
