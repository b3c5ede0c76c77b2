use Rattle.std.proofs.Common.{◌≡◌, get_or, drop}
use Rattle.ra_banks.specs.Banks.{bytes_of}
use Rattle.ra_banks.proofs.bank.byte_at.Given as goal

abbrev pub invariant-loop-bank : goal.invariant-loop-bank
invariant-loop-bank l = get_or (bytes_of (drop l.bank-index l.banks)) l.left 0 ≡ get_or (bytes_of l.banks) l.at 0
