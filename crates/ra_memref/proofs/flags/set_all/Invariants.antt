use Rattle.std.proofs.Common.{take}
use Rattle.ra_memref.specs.Flags.{SetsAll}
use Rattle.ra_memref.proofs.flags.set_all.Given as goal

abbrev pub invariant-loop-place : goal.invariant-loop-place
invariant-loop-place l = SetsAll (take l.place-index l.places) l.initial.flags l.flags
