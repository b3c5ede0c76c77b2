use Rattle.std.proofs.Common.{◌≡◌, ◌++◌, length, map}
use Rattle.ra_calls.specs.ToldCells.{told_cell}
use Rattle.ra_calls.proofs.told_cell.told_cells.Given as goal

-- the cells that are left are not yet told
abbrev pub invariant-loop-cell : goal.invariant-loop-cell
invariant-loop-cell l = l.told.items ++ map (told_cell l.size) l.rest ≡ map (told_cell l.size) l.cells

abbrev pub decreases-loop-cell : goal.decreases-loop-cell
decreases-loop-cell l = length l.rest
