use Rattle.std.proofs.Common.{drop, arith}
use Rattle.ra_banks.specs.Banks.{bytes_of}
use Rattle.ra_banks.proofs.Shifted.{left_more, left_part}
use Rattle.ra_banks.proofs.bank.bank_of.Goals as goal

pub loop-number-preserved : goal.loop-number-preserved
loop-number-preserved c = record {
  left_are = left_more c.args.banks.now c.loop-number.number _ c.loop-number-test.true
      (bytes_of (drop c.args.first c.args.banks.now)) c.args.at c.loop-number.left
      c.loop-number.invariant.left_are c.if-left-bytes.false;
  from = omega (arith, c.loop-number.invariant.from);
}

pub returns-then-left-bytes-clause-found : goal.returns-then-left-bytes-clause-found
returns-then-left-bytes-clause-found c = left_part c.args.banks.now c.loop-number.number _
    c.loop-number-test.true (bytes_of (drop c.args.first c.args.banks.now)) c.args.at
    c.loop-number.left c.loop-number.invariant.left_are
