use Rattle.std.proofs.Common.{◌≡◌, ◌+◌, ◌-◌, ◌∙◌, ap, arith, subst, sym}
use Rattle.std.proofs.lemmas.List.{with_items_is}
use Rattle.ra_memref.specs.Naming.{wanted_after}
use Rattle.ra_memref.proofs.Wanted.{AreWantedFrom, wanted_more}
use Rattle.ra_memref.proofs.names.put_wanted.Goals as goal

pub loop-left-preserved : goal.loop-left-preserved
loop-left-preserved c =
    let as_many = c.want.auto.wanted ∙ c.deref_mut.ensures.len in
    let back : c.loop-left.left ≡ c.loop-left.left - 1 + 1 = omega (arith, c.loop-left-test.true) in
    let marks = with_items_is c.loop-left.wanted c.want.new.wanted as_many ∙ c.want.ensures
    ∙ ap (wanted_after _ (c.loop-left.left - 1)) c.deref_mut.ensures.value in
    record {
      wanted = subst (λ ws. AreWantedFrom c.args.nodes.now ws (c.loop-left.left - 1)) (sym marks)
          (wanted_more c.args.nodes.now c.requires.pool c.loop-left.wanted.items (c.loop-left.left - 1)
          (subst (AreWantedFrom c.args.nodes.now c.loop-left.wanted.items) back c.loop-left.invariant.wanted));
      room = c.loop-left.invariant.room;
    }
