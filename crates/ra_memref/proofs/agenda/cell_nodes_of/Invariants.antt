use Rattle.ra_memref.specs.Due.{AreCellNodes}
use Rattle.ra_memref.proofs.agenda.cell_nodes_of.Given as goal

abbrev pub invariant-loop-number : goal.invariant-loop-number
invariant-loop-number l = AreCellNodes l.nodes l.number l.cell_nodes.items
