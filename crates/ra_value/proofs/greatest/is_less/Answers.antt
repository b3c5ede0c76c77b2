use Rattle.std.proofs.Common.{arith}
use Rattle.ra_value.proofs.GreatestLemmas.{signed_order-cast}
use Rattle.ra_value.proofs.greatest.is_less.Goals as goal

pub returns : goal.returns
returns c = signed_order-cast c.args.number c.args.other c.cast_signed.result c.cast_signed-2.result
    (omega arith) (omega arith) c.cast_signed.ensures c.cast_signed-2.ensures
