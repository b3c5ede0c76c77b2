use Rattle.std.proofs.Common.{take}
use Rattle.ra_memory.specs.Image.{AreBytes}
use Rattle.ra_banks.specs.Banks.{bytes_of}
use Rattle.ra_calls.proofs.bytes.are_bytes.Given as goal

abbrev pub invariant-loop-bank : goal.invariant-loop-bank
invariant-loop-bank l = AreBytes (bytes_of (take l.bank-index l.banks))
