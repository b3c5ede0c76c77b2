use Rattle.std.proofs.Common.{◌≡◌, ◌∙◌, ap, length, arith, refl, map}
use Rattle.ra_indirect.specs.Pools.{spelled_by, node_at}
use Rattle.ra_memref.specs.Layout.{cells_before}
use Rattle.ra_memref.proofs.LaidLemmas.{cells_all}
use Rattle.ra_memref.proofs.Widths.{widths_cell, widths_same}
use Rattle.ra_memref.proofs.layout.widths_of.Goals.{in-Cell+in_ok-push, in_default}
use Rattle.ra_memref.proofs.layout.widths_of.Goals as goal

pub loop-node-preserved : goal.loop-node-preserved
loop-node-preserved c = elim c.match-node.branch [
  | in-Cell+in_ok-push w ↦ rw (w.widths-is, w.in_ok-push.ensures.items)
      (widths_cell c.args.nodes.now c.requires.pool c.loop-node.widths.items c.loop-node.node-index
      c.loop-node-test.true c.loop-node.invariant w.in-Cell.pointer w.in-Cell.offset w.in-Cell.width
      w.in-Cell.is)
  | in_default w ↦ rw w.widths-is (widths_same c.args.nodes.now c.requires.pool
      c.loop-node.widths.items c.loop-node.node-index c.loop-node-test.true c.loop-node.invariant
      (node_at c.args.nodes.now c.loop-node.node-index) refl
      (λ pointer offset width same. w.in_default.not-Cell width pointer offset same))
]

pub returns-clause-widths : goal.returns-clause-widths
returns-clause-widths c =
    let end : c.loop-node.node-index ≡ length c.args.nodes.now = omega arith in
    c.loop-node.invariant.are ∙ ap (λ cs. map (λ d. d.width) cs)
    (ap (cells_before (spelled_by c.args.nodes.now)) end ∙ cells_all c.args.nodes.now)
