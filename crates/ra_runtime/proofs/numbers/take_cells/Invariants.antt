use Rattle.std.proofs.Common.{◌≡◌, ◌<◌, true, ◌++◌, length, replicate, take, drop}
use Rattle.ra_runtime.proofs.numbers.take_cells.Given as goal

-- the first numbers are set, and the table is marked once one was set
abbrev pub invariant-loop-cell : goal.invariant-loop-cell
invariant-loop-cell l = record {
  is : l.table ≡ record l.fn.table {
    cells = take l.cell l.numbers ++ drop l.cell l.fn.table.cells;
    sampled = l.table.sampled;
    marked = l.table.marked;
  };
  marked : 0 < l.cell → l.table.marked ≡ replicate (length l.fn.table.cells) true;
  kept : l.cell ≡ 0 → l.table.marked ≡ l.fn.table.marked;
}
