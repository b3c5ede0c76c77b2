use Rattle.std.proofs.Common.{arith}
use Rattle.ra_why.proofs.TextLemmas.{enough_so_far, one_so_far, twice_so_far}
use Rattle.ra_why.proofs.whole.width.Goals as goal

pub loop-width-init : goal.loop-width-init
loop-width-init c = record { known = one_so_far c.args.frames; some = omega arith; small = omega arith }

pub loop-width-preserved : goal.loop-width-preserved
loop-width-preserved c = record {
  known = twice_so_far c.args.frames c.loop-width.width c.loop-width.invariant.known
      (omega (arith, c.loop-width-test.true));
  some = omega (arith, c.loop-width.invariant.some);
  small = omega (arith, c.loop-width-test.true);
}

pub returns : goal.returns
returns c = enough_so_far c.args.frames c.loop-width.width c.loop-width.invariant.known
    (omega (arith, c.loop-width-test.false))
