use Rattle.std.proofs.Common.{arith, sym, subst, ap, length}
use Rattle.ra_indirect.specs.Interned.{IsPool, HaveConstants}
use Rattle.ra_indirect.specs.Buckets.{AreFiled}
use Rattle.ra_indirect.proofs.PoolLemmas.{HaveConstants-none, IsPool-none}
use Rattle.ra_indirect.proofs.pool.Pool.with_room.Goals as goal

pub invariant_of-result : goal.invariant_of-result
invariant_of-result c =
    let none = c.in_ok-nodes.ensures.items in
    let zeros = c.in_ok-constants.ensures.items_if_clones_equal (λ y e. e) in (
      subst IsPool (sym none) IsPool-none,
      omega (arith, ap length none),
      subst (HaveConstants _) (sym zeros) (HaveConstants-none _ 256),
      subst (λ nodes. AreFiled nodes c.in_ok-buckets.buckets) (sym none) c.in_ok-buckets.ensures.filed,
    )
