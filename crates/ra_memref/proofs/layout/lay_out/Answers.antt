use Rattle.std.proofs.Common.{◌≡◌, arith, length, refl, subst}
use Rattle.ra_memref.proofs.LayoutLemmas.{IsLaying, laying_more, laid_places, laid_masks}
use Rattle.ra_memref.proofs.layout.lay_out.Goals as goal

pub loop-node-preserved : goal.loop-node-preserved
loop-node-preserved c =
    rw c.in_ok-push.ensures.items (laying_more c.args.nodes.now c.requires.pool
    c.loop-node.slots.items _ _ _ _ c.in_ok-slot.slot c.loop-node.node-index c.loop-node-test.true
    c.loop-node.invariant _ refl c.in_ok-slot.ensures)

pub returns-clause-places : goal.returns-clause-places
returns-clause-places c =
    let end : c.loop-node.node-index ≡ length c.args.nodes.now = omega arith in
    laid_places c.args.nodes.now c.requires.pool _ _ _ (subst
    (IsLaying c.args.nodes.now c.loop-node.slots.items c.loop-node.places.items
    c.loop-node.masks.keys) end c.loop-node.invariant)

pub returns-clause-masks : goal.returns-clause-masks
returns-clause-masks c =
    let end : c.loop-node.node-index ≡ length c.args.nodes.now = omega arith in
    laid_masks c.args.nodes.now c.requires.pool _ _ _ (subst
    (IsLaying c.args.nodes.now c.loop-node.slots.items c.loop-node.places.items
    c.loop-node.masks.keys) end c.loop-node.invariant)
