use Rattle.std.proofs.Common.{arith}
use Rattle.ra_account.proofs.WantLemmas.{fewest_fits, wants_by}
use Rattle.ra_account.proofs.gathering.fewest.Goals as goal

pub loop-alt-init : goal.loop-alt-init
loop-alt-init c = record {
  fewest = fewest_fits (wants_by c.args.alts.now);
  fits = omega arith;
}
