-- A pool of nodes, and the tree or the cell that each node spells: docs/DEFINITIONS.md, "Trees, cells and tracked
-- masks".
use Rattle.std.specs.Prelude.{◌≡◌, ℕ, ◌<◌, ◌⊎◌, IsTrue, List, [], ◌∷◌, ◌++◌, length, slice_get, slice_index_or, Some}
use Rattle.std.specs.List.{flat_map}
use Rattle.ra_operand.specs.declared.size.Size.{Size}
use Rattle.ra_operand.specs.declared.kind.Kind.{Kind}
use Rattle.ra_operand.specs.Views.{width_of}
use Rattle.ra_operand.specs.Operators.{is_arithmetic}
use Rattle.ra_indirect.specs.declared.node.Node.{Node}
use Rattle.ra_indirect.specs.declared.node.Node.TheVariants.{Const, Cell as CellNode, View, Arith}
use Rattle.ra_indirect.specs.Trees.{Tree, constant, join, view, Cell, cell_of, Tracked, same_tracked, tracked_by}
use Rattle.ra_indirect.specs.Trees.{firsts}

-- what a node spells: a tree, or a cell
pub data Spelled : Type 0 where
  IsTree : Tree → Spelled
  IsCell : Cell → Spelled

-- the tree that a node spells; what is no tree counts as the constant 0
abbrev pub tree_in : Spelled → Tree
tree_in (IsTree tree) = tree
tree_in (IsCell c) = constant 0

-- a view of the cell that a node spells, the constant 0 where it spells none
abbrev pub view_in : Kind → Size → Spelled → Tree
view_in kind size (IsCell c) = view kind size c.pointer c.address
view_in kind size (IsTree tree) = constant 0

-- what the node of this number spells; the constant 0 where there is none
abbrev pub spelled_at : List Spelled → ℕ → Spelled
spelled_at spelled n = slice_index_or spelled n (IsTree (constant 0))

-- what a node spells, from what the earlier nodes spell
abbrev pub spelled_with : List Spelled → Node → Spelled
spelled_with earlier (Const n) = IsTree (constant n)
spelled_with earlier (CellNode width pointer offset) =
    IsCell (record { pointer = tree_in (spelled_at earlier pointer); address = offset; width = width })
spelled_with earlier (View kind size c) = IsTree (view_in kind size (spelled_at earlier c))
spelled_with earlier (Arith op left right) =
    IsTree (join op (tree_in (spelled_at earlier left)) (tree_in (spelled_at earlier right)))

-- what the earlier nodes spell, and then these
abbrev pub spelled_from : List Spelled → List Node → List Spelled
spelled_from earlier [] = earlier
spelled_from earlier (node ∷ nodes) = spelled_from (earlier ++ spelled_with earlier node ∷ []) nodes

-- what the nodes of a pool spell
abbrev pub spelled_by : List Node → List Spelled
spelled_by nodes = spelled_from [] nodes

-- the node of this number spells the tree
abbrev pub Spells : List Node → ℕ → Tree → Type 0
Spells nodes n tree = slice_get (spelled_by nodes) n ≡ Some (IsTree tree)

-- the node is a cell of this width
abbrev pub IsCellOf : ℕ → Node → Type 0
IsCellOf width (CellNode w pointer offset) = w ≡ width
IsCellOf width node = ⊥

-- the node has a value: it is no cell
abbrev pub IsValued : Node → Type 0
IsValued (CellNode w pointer offset) = ⊥
IsValued node = Unit {0}

-- the node of a number, a constant past the end
abbrev pub node_at : List Node → ℕ → Node
node_at nodes n = slice_index_or nodes n (Const 0)

-- a width that a cell may have
abbrev pub IsWidth : ℕ → Type 0
IsWidth width = (width ≡ 1) ⊎ ((width ≡ 2) ⊎ (width ≡ 4))

-- the node may come after these: it names earlier nodes alone, and such as it needs
abbrev pub MayFollow : List Node → Node → Type 0
MayFollow nodes (Const n) = Unit {0}
MayFollow nodes (CellNode width pointer offset) =
    (pointer < length nodes) × IsValued (node_at nodes pointer) × IsWidth width
MayFollow nodes (View kind size c) = (c < length nodes) × IsCellOf (width_of size) (node_at nodes c)
MayFollow nodes (Arith op left right) = (left < length nodes) × IsValued (node_at nodes left)
    × (right < length nodes) × IsValued (node_at nodes right) × IsTrue (is_arithmetic op)

-- the cell that a node spells, if it spells one
abbrev pub cell_in : Spelled → List Cell
cell_in (IsCell c) = c ∷ []
cell_in (IsTree tree) = []

-- the cells that the nodes of a pool spell, in their order
abbrev pub cells_of : List Node → List Cell
cells_of nodes = flat_map cell_in (spelled_by nodes)

-- the tracked mask that a node looks at, if it is a prior view
abbrev pub tracked_at : Spelled → List Tracked
tracked_at (IsTree (view kind size pointer address)) = tracked_by kind size (cell_of size pointer address)
tracked_at _ = []

-- the tracked masks of a pool, each once, in the order of the nodes
abbrev pub tracked_of : List Node → List Tracked
tracked_of nodes = firsts same_tracked (flat_map tracked_at (spelled_by nodes))
