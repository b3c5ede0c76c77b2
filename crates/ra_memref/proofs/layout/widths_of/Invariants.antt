use Rattle.ra_memref.proofs.Widths.{AreWidths}
use Rattle.ra_memref.proofs.layout.widths_of.Given as goal

abbrev pub invariant-loop-node : goal.invariant-loop-node
invariant-loop-node l = AreWidths l.nodes l.widths.items l.node-index
