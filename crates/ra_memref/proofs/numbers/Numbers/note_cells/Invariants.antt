use Rattle.ra_memref.proofs.AgendaLemmas.{AreCellsNoted}
use Rattle.ra_memref.proofs.numbers.Numbers.note_cells.Given as goal

abbrev pub invariant-loop-cell : goal.invariant-loop-cell
invariant-loop-cell l = AreCellsNoted l.cell_nodes l.self l.initial.due l.due l.cell
