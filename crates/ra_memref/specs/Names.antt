-- The names of trees, cells and tracked masks: docs/DEFINITIONS.md, "Names of cells and masks".
use Rattle.std.specs.Prelude.{ℕ, ◌<◌, List, [], ◌∷◌, ◌++◌, slice_index_or}
use Rattle.std.specs.Int.{w32, to_le_bytes}
use Rattle.md5.specs.Md5.{md5}
use Rattle.ra_operand.specs.declared.size.Size.{Size}
use Rattle.ra_operand.specs.declared.kind.Kind.{Kind}
use Rattle.ra_operand.specs.declared.op.Op.{Op}
use Rattle.ra_operand.specs.Same.{number_of_kind, number_of_size, number_of_op}
use Rattle.ra_operand.specs.Views.{width_of}
use Rattle.ra_indirect.specs.declared.node.Node.{Node}
use Rattle.ra_indirect.specs.declared.node.Node.TheVariants.{Const, Cell as CellNode, View, Arith}
use Rattle.ra_indirect.specs.Trees.{Tree, constant, join, view, Cell, Tracked}
use Rattle.ra_indirect.specs.Pools.{Spelled, IsTree, IsCell}

-- the name of a constant: "C" and the number
abbrev pub constant_name : ℕ → List ℕ
constant_name n = md5 (67 ∷ to_le_bytes w32 n)

-- the name of a cell: "M", the name of the pointer, the address, and the width
abbrev pub cell_name_by : (pointer : List ℕ) → (address width : ℕ) → List ℕ
cell_name_by pointer address width = md5 (77 ∷ (pointer ++ (to_le_bytes w32 address ++ width ∷ [])))

-- the name of a view: "V", the kind, the size, and the name of the cell
abbrev pub view_name_by : Kind → Size → (cell : List ℕ) → List ℕ
view_name_by kind size cell = md5 (86 ∷ number_of_kind kind ∷ number_of_size size ∷ cell)

-- the name of an operator over two trees: "O", the operator, and the names of both sides
abbrev pub join_name_by : Op → (left right : List ℕ) → List ℕ
join_name_by op left right = md5 (79 ∷ number_of_op op ∷ (left ++ right))

-- the name of a tracked mask: "P", the name of the cell, and the mask
abbrev pub tracked_name_by : (cell : List ℕ) → (mask : ℕ) → List ℕ
tracked_name_by cell mask = md5 (80 ∷ (cell ++ to_le_bytes w32 mask))

-- the name of a tree
abbrev pub tree_name : Tree → List ℕ
tree_name (constant n) = constant_name n
tree_name (join op left right) = join_name_by op (tree_name left) (tree_name right)
tree_name (view kind size pointer address) =
    view_name_by kind size (cell_name_by (tree_name pointer) address (width_of size))

-- the name of a cell
abbrev pub cell_name : Cell → List ℕ
cell_name c = cell_name_by (tree_name c.pointer) c.address c.width

-- the name of a tracked mask, by its cell
abbrev pub tracked_name : Tracked → List ℕ
tracked_name t = tracked_name_by (cell_name t.cell) t.mask

-- the name of what a node spells
abbrev pub spelled_name : Spelled → List ℕ
spelled_name (IsTree tree) = tree_name tree
spelled_name (IsCell c) = cell_name c

-- the name of a node, by the names of the earlier ones
abbrev pub name_with : List (List ℕ) → Node → List ℕ
name_with names (Const n) = constant_name n
name_with names (CellNode width pointer offset) = cell_name_by (slice_index_or names pointer []) offset width
name_with names (View kind size c) = view_name_by kind size (slice_index_or names c [])
name_with names (Arith op left right) =
    join_name_by op (slice_index_or names left []) (slice_index_or names right [])

-- the numbers that a node names are below this one
abbrev pub NamesBelow : ℕ → Node → Type 0
NamesBelow n (Const m) = Unit {0}
NamesBelow n (CellNode width pointer offset) = pointer < n
NamesBelow n (View kind size c) = c < n
NamesBelow n (Arith op left right) = (left < n) × (right < n)
