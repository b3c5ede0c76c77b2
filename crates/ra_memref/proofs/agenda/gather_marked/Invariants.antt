use Rattle.ra_memref.proofs.AgendaLemmas.{IsGathering}
use Rattle.std.proofs.Common.{◌≡◌, ◌≤◌, length, ◌-◌}
use Rattle.ra_memref.proofs.agenda.gather_marked.Given as goal

abbrev pub invariant-loop-cell : goal.invariant-loop-cell
invariant-loop-cell l = record {
  gathering : IsGathering l.cell_nodes l.initial.numbers.watches.marked l.initial.due l.due l.at;
  same : l.numbers ≡ l.initial.numbers;
  cells : length l.numbers.watches.marked ≡ length l.cell_nodes;
  most : l.at ≤ length l.cell_nodes;
}

abbrev pub decreases-loop-cell : goal.decreases-loop-cell
decreases-loop-cell l = length l.cell_nodes - l.at
