use Rattle.ra_memref.proofs.Passed.{cell_count}
use Rattle.ra_memref.proofs.PutNames.{ArePut, cell_names}
use Rattle.ra_memref.proofs.names.put_cells.Given as goal

-- the names of the cells so far
abbrev pub invariant-loop-number : goal.invariant-loop-number
invariant-loop-number l = ArePut (cell_names l.nodes) (cell_count l.nodes l.number) l.cells
