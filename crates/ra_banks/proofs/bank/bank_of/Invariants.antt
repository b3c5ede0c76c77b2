use Rattle.std.proofs.Common.{◌≤◌, drop}
use Rattle.ra_banks.specs.Banks.{bytes_of}
use Rattle.ra_banks.proofs.Shifted.{AreLeft}
use Rattle.ra_banks.proofs.bank.bank_of.Given as goal

abbrev pub invariant-loop-number : goal.invariant-loop-number
invariant-loop-number l = record {
  left_are : AreLeft (bytes_of (drop l.first l.banks)) (bytes_of (drop l.number l.banks)) l.at l.left;
  from : l.first ≤ l.number;
}
