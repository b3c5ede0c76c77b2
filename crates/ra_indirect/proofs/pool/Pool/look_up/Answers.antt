use Rattle.std.proofs.Common.{◌<◌, ◌^◌, refl, arith, sym, subst, length, inr}
use Rattle.std.specs.List.{Contains}
use Rattle.ra_indirect.specs.Pools.{MayFollow}
use Rattle.ra_indirect.specs.Interned.{Interns}
use Rattle.ra_indirect.specs.Buckets.{AreFiled}
use Rattle.ra_indirect.proofs.PoolLemmas.{IsPool-interned, length-interned, HaveConstants-interned}
use Rattle.ra_indirect.proofs.pool.Pool.look_up.Goals as goal

pub invariant_of-self-in-None : goal.invariant_of-self-in-None
invariant_of-self-in-None c =
    let old = c.self.inside.nodes.items in
    let node = c.args.node in
    let room : length old < 2 ^ 31 = subst (λ ns. length ns < 2 ^ 31) (sym c.self.view_is) c.requires.room in
    let interns : Interns old c.push.new.self.items node (length old) =
    inr (record {
      absent = λ has. c.in-None.ensures.none (subst (λ ns. Contains ns node) (sym c.deref-2.ensures.value) has);
      last = refl;
      grown = c.in_ok-push-in-None.ensures.items;
    }) in
    let grown = length-interned _ _ _ _ interns in
    let follows = subst (λ ns. MayFollow ns node) (sym c.self.view_is) c.requires.follows in
    let filed = subst (λ ns. AreFiled ns c.make_room.new.self) c.deref.ensures.value c.make_room.ensures.filed in (
      IsPool-interned old _ node _ c.self.invariant.0 follows interns,
      omega arith,
      HaveConstants-interned _ _ _ _ _ interns c.self.invariant.2,
      subst (λ ns. AreFiled ns c.put.new.self) (sym c.in_ok-push-in-None.ensures.items)
          (c.put.ensures.filed old node (omega arith) c.bucket-bucket.ensures.bucket filed),
    )

pub returns-in_ok-push-in-None-clause-pool : goal.returns-in_ok-push-in-None-clause-pool
returns-in_ok-push-in-None-clause-pool c = (invariant_of-self-in-None c).0
