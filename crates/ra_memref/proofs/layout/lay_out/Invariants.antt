use Rattle.ra_memref.proofs.LayoutLemmas.{IsLaying}
use Rattle.ra_memref.proofs.layout.lay_out.Given as goal

abbrev pub invariant-loop-node : goal.invariant-loop-node
invariant-loop-node l = IsLaying l.nodes l.slots.items l.places.items l.masks.keys l.node-index
