-- Which nodes of a pool are to have names, and what these are: docs/DEFINITIONS.md, "Names of cells and masks".
use Rattle.std.specs.Prelude.{◌≡◌, ℕ, ◌<◌, Bool, true, false, if◌then◌else◌}
use Rattle.std.specs.Prelude.{List, [], length, slice_index_or, slice_set}
use Rattle.ra_indirect.specs.declared.node.Node.{Node}
use Rattle.ra_indirect.specs.declared.node.Node.TheVariants.{Const, Cell as CellNode, View, Arith}
use Rattle.ra_indirect.specs.Trees.{Cell}
use Rattle.ra_indirect.specs.Pools.{IsCell, spelled_at, spelled_by, node_at}
use Rattle.ra_memref.specs.Names.{cell_name}

-- the node of this number is to have a name
abbrev pub is_wanted : List Bool → ℕ → Bool
is_wanted wanted n = slice_index_or wanted n false

-- which nodes are to have names, by one node more: a cell and its pointer, and what a wanted node names
abbrev pub wanted_after : Node → ℕ → List Bool → List Bool
wanted_after (Const n) number wanted = wanted
wanted_after (CellNode width pointer offset) number wanted = slice_set (slice_set wanted number true) pointer true
wanted_after (View kind size c) number wanted =
    if is_wanted wanted number then slice_set wanted c true else wanted
wanted_after (Arith op left right) number wanted =
    if is_wanted wanted number then slice_set (slice_set wanted left true) right true else wanted

-- a node has what it wants: a cell is to have a name and so is its pointer, and with a wanted node those that it names
abbrev pub HasWanted : List Bool → ℕ → Node → Type 0
HasWanted wanted number (Const n) = Unit {0}
HasWanted wanted number (CellNode width pointer offset) =
    (is_wanted wanted number ≡ true) × (is_wanted wanted pointer ≡ true)
HasWanted wanted number (View kind size c) = is_wanted wanted number ≡ true → is_wanted wanted c ≡ true
HasWanted wanted number (Arith op left right) =
    is_wanted wanted number ≡ true → (is_wanted wanted left ≡ true) × (is_wanted wanted right ≡ true)

-- the cells are to have names, and all that their pointers reach
pub record AreWanted (nodes : List Node) (wanted : List Bool) : Type 0 where
  pub as_many : length wanted ≡ length nodes
  pub each : (n : ℕ) → n < length nodes → HasWanted wanted n (node_at nodes n)

-- each node that spells a cell has the name of that cell
pub record NameCells (nodes : List Node) (names : List (List ℕ)) : Type 0 where
  pub as_many : length names ≡ length nodes
  pub each : (n : ℕ) (c : Cell) → n < length nodes → spelled_at (spelled_by nodes) n ≡ IsCell c
      → slice_index_or names n [] ≡ cell_name c
