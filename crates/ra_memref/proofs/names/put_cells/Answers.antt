use Rattle.std.proofs.Common.{◌∙◌, length, refl, subst, sym, arith, ap}
use Rattle.std.proofs.lemmas.List.{length-map}
use Rattle.ra_indirect.specs.Pools.{cells_of, node_at}
use Rattle.ra_memref.specs.Names.{cell_name}
use Rattle.ra_memref.proofs.LaidLemmas.{cells_all}
use Rattle.ra_memref.proofs.Passed.{cell_count}
use Rattle.ra_memref.proofs.PutNames.{ArePut, cell_names, cell_within, cell_put, no_cell_put, put_all}
use Rattle.ra_memref.proofs.names.put_cells.Goals.{in-Cell, in_default}
use Rattle.ra_memref.proofs.names.put_cells.Goals as goal

pub bounds-cells-slots : goal.bounds-cells-slots
bounds-cells-slots c =
    let below = cell_within c.args.nodes.now c.requires.pool c.args.slots.now c.requires.slots c.args.names.now
    c.requires.names c.loop-number.number c.loop-number-test.true c.in-Cell.pointer c.in-Cell.offset c.in-Cell.width
    c.in-Cell.is in
    omega (arith, below, c.loop-number.auto.cells, c.requires.long)

pub loop-number-preserved : goal.loop-number-preserved
loop-number-preserved c =
    let nodes = c.args.nodes.now in
    let number = c.loop-number.number in
    elim c.match-nodes-number.branch [
      | in-Cell w ↦ rw w.cells-is
          (cell_put nodes c.requires.pool c.args.slots.now c.requires.slots c.args.names.now c.requires.names number
          c.loop-number-test.true w.in-Cell.pointer w.in-Cell.offset w.in-Cell.width w.in-Cell.is c.loop-number.cells
          (c.loop-number.auto.cells ∙ c.requires.long) c.loop-number.invariant)
      | in_default w ↦ rw w.cells-is
          (subst (λ j. ArePut (cell_names nodes) j c.loop-number.cells)
          (sym (no_cell_put nodes c.requires.pool c.args.slots.now c.requires.slots c.args.names.now c.requires.names
          number c.loop-number-test.true (node_at nodes number) refl
          (λ pointer offset width same. w.in_default.not-Cell width pointer offset same))) c.loop-number.invariant)
    ]

pub returns : goal.returns
returns c =
    let nodes = c.args.nodes.now in
    put_all (cell_names nodes) c.loop-number.cells (cell_count nodes c.loop-number.number)
    (omega (arith, c.loop-number.auto.cells, c.requires.long, length-map (cells_of nodes) cell_name))
    (ap (cell_count nodes) (omega arith) ∙ ap length (cells_all nodes) ∙ sym (length-map (cells_of nodes) cell_name))
    c.loop-number.invariant
