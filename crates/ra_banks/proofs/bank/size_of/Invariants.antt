use Rattle.std.proofs.Common.{◌≡◌, ◌+◌, ◌≤◌, ◌^◌, length, drop}
use Rattle.ra_banks.specs.Banks.{bytes_of}
use Rattle.ra_banks.proofs.bank.size_of.Given as goal

abbrev pub invariant-loop-bank : goal.invariant-loop-bank
invariant-loop-bank l = record {
  rest : l.size + length (bytes_of (drop l.bank-index l.banks)) ≡ length (bytes_of l.banks);
  most : l.size ≤ 2 ^ 27;
}
