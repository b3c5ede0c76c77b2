-- The cells of a set that lie at one place at every frame: docs/DEFINITIONS.md, "Calls from C".
use Rattle.std.specs.Prelude.{ℕ, List, [], ◌∷◌}
use Rattle.std.specs.List.{flat_map}
use Rattle.ra_indirect.specs.Pools.{node_at}
use Rattle.ra_indirect.specs.Trees.{Tree, constant, Cell}
use Rattle.ra_indirect.specs.declared.node.Node.{Node}
use Rattle.ra_indirect.specs.declared.node.Node.TheVariants.{Const, Cell as CellNode}
use Rattle.ra_memref.specs.Values.{moved_by}
use Rattle.ra_runtime.specs.declared.cells.DirectCell.{DirectCell}

-- a cell at an address that a constant moves; none where the pointer is no constant
abbrev pub direct_by : (address width : ℕ) → Tree → List DirectCell
direct_by address width (constant n) = record { place = moved_by address n; width = width } ∷ []
direct_by address width pointer = []

-- a cell whose pointer is a constant, with its place, which is the same at every frame
abbrev pub direct_cell : Cell → List DirectCell
direct_cell c = direct_by c.address c.width c.pointer

-- those of some cells whose pointers are constants, in order
abbrev pub direct_of : List Cell → List DirectCell
direct_of cells = flat_map direct_cell cells

-- the same by the node of the pointer
abbrev pub direct_with : (offset width : ℕ) → Node → List DirectCell
direct_with offset width (Const n) = record { place = moved_by offset n; width = width } ∷ []
direct_with offset width pointer = []

-- the direct cell that a node after these is, if it is one
abbrev pub direct_in : List Node → Node → List DirectCell
direct_in nodes (CellNode width pointer offset) = direct_with offset width (node_at nodes pointer)
direct_in nodes node = []
