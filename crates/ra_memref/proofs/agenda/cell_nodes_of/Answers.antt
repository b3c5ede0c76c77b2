use Rattle.ra_memref.proofs.AgendaLemmas.{noted_none, noted_cell, noted_same}
use Rattle.ra_memref.proofs.agenda.cell_nodes_of.Goals.{in-Cell+in_ok-push, in_default}
use Rattle.ra_indirect.specs.Pools.{node_at}
use Rattle.std.proofs.Common.{arith, refl, subst, ◌≡◌, length}
use Rattle.ra_memref.specs.Due.{AreCellNodes}
use Rattle.ra_memref.proofs.agenda.cell_nodes_of.Goals as goal

-- src/agenda.rt:134:5
pub loop-number-init : goal.loop-number-init
loop-number-init c = rw c.new-cell_nodes.ensures.items (noted_none c.args.nodes.now)

-- src/agenda.rt:134:5
pub loop-number-preserved : goal.loop-number-preserved
loop-number-preserved c = elim c.match-node.branch [
  | in-Cell+in_ok-push w ↦ rw (w.cell_nodes-is, w.in_ok-push.ensures.items)
      (noted_cell c.args.nodes.now c.requires.pool c.loop-number.cell_nodes.items c.loop-number.number
      c.loop-number-test.true c.loop-number.invariant w.in-Cell.pointer w.in-Cell.offset w.in-Cell.width w.in-Cell.is)
  | in_default w ↦ rw w.cell_nodes-is
      (noted_same c.args.nodes.now c.requires.pool c.loop-number.cell_nodes.items c.loop-number.number
      c.loop-number-test.true c.loop-number.invariant (node_at c.args.nodes.now c.loop-number.number) refl
      (λ pointer offset width same. w.in_default.not-Cell width pointer offset same))
]

-- src/agenda.rt:128:1
pub returns : goal.returns
returns c =
    let end : c.loop-number.number ≡ length c.args.nodes.now = omega arith in
    subst (λ n. AreCellNodes c.args.nodes.now n c.loop-number.cell_nodes.items) end c.loop-number.invariant
