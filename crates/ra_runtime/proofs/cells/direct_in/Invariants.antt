use Rattle.std.proofs.Common.{◌≡◌}
use Rattle.ra_indirect.specs.Pools.{spelled_by}
use Rattle.ra_memref.specs.Layout.{cells_before}
use Rattle.ra_runtime.specs.Cells.{direct_of}
use Rattle.ra_runtime.proofs.cells.direct_in.Given as goal

-- the direct cells so far
abbrev pub invariant-loop-number : goal.invariant-loop-number
invariant-loop-number l = l.cells.items ≡ direct_of (cells_before (spelled_by l.nodes) l.number)
