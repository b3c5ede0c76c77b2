use Rattle.std.proofs.Common.{arith, ap, length}
use Rattle.ra_explain.proofs.orders.put_group.Goals as goal

pub overflow_cast-pause_count : goal.overflow_cast-pause_count
overflow_cast-pause_count c =
    omega (
      arith,
      c.pause_count.ensures.few,
      c.if-len.false,
      c.len.ensures,
      ap length c.deref-2.ensures.value,
      c.args.group.now.conditions.ok.0,
    )
