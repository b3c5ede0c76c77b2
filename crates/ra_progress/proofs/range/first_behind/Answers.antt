use Rattle.std.proofs.Common.{rules, arith, ◌++◌, ◌+◌, ◌-◌, ◌/◌, option_to_list}
use Rattle.ra_progress.proofs.Orders.{numbers_within, all_behind, none_behind}
use Rattle.ra_progress.proofs.range.first_behind.Goals as goal

pub name_of-requires : goal.name_of-requires
name_of-requires c =
    numbers_within (c.args.names.now ++ option_to_list c.args.last.now) c.args.order.now c.requires.order
    (c.loop-low.low + (c.loop-low.high - c.loop-low.low) / 2)
    (omega (arith, c.loop-low-test.true, c.loop-low.invariant.most))

pub loop-low-preserved-then-is_lt : goal.loop-low-preserved-then-is_lt
loop-low-preserved-then-is_lt c = record {
  within = omega (arith, c.loop-low-test.true);
  most = omega (arith, c.loop-low-test.true, c.loop-low.invariant.most);
  below = c.loop-low.invariant.below;
  above = λ k up within. all_behind (c.args.names.now ++ option_to_list c.args.last.now)
      c.args.order.now c.requires.order c.args.name.now
      (c.loop-low.low + (c.loop-low.high - c.loop-low.low) / 2)
      (omega (arith, c.loop-low-test.true, c.loop-low.invariant.most)) (search rules) k up within;
}

pub loop-low-preserved : goal.loop-low-preserved
loop-low-preserved c = record {
  within = omega (arith, c.loop-low-test.true);
  most = c.loop-low.invariant.most;
  below = λ k under. none_behind (c.args.names.now ++ option_to_list c.args.last.now)
      c.args.order.now c.requires.order c.args.name.now (c.loop-low.low + (c.loop-low.high
      - c.loop-low.low) / 2) (omega (arith, c.loop-low-test.true, c.loop-low.invariant.most))
      (search rules) k (omega (arith, under));
  above = c.loop-low.invariant.above;
}
