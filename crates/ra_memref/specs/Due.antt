-- Which nodes a pass has to take: docs/INTERNALS.md, "Due nodes".
use Rattle.std.specs.Prelude.{◌≡◌, ◌⊎◌, ℕ, ◌<◌, Bool, true, false, List, [], ◌∷◌, length, slice_index, slice_index_or}
use Rattle.ra_operand.specs.declared.kind.Kind.TheVariants.{Prior}
use Rattle.ra_operand.specs.Views.{mask_of, view_of, transformed}
use Rattle.ra_operand.specs.Operators.{computed}
use Rattle.ra_links.specs.declared.entry.Entry.{Entry}
use Rattle.ra_links.specs.FlatRows.{IsListed}
use Rattle.ra_links.specs.Rows.{row_at}
use Rattle.ra_indirect.specs.declared.node.Node.{Node}
use Rattle.ra_indirect.specs.declared.node.Node.TheVariants.{Const, Cell as CellNode, View, Arith}
use Rattle.ra_indirect.specs.Pools.{node_at, spelled_by}
use Rattle.ra_memref.specs.Numbers.{NumbersSeen}
use Rattle.ra_memref.specs.Layout.{cells_before}
use Rattle.ra_memref.specs.Pass.{value_at, earlier_at, place_in, prior_in, looked_in}

-- the number that a cell had at the frame before; of another node its own
abbrev pub earlier_by : Node → NumbersSeen → List ℕ → ℕ → ℕ
earlier_by (CellNode width pointer offset) numbers slots number = earlier_at numbers (slice_index slots number)
earlier_by _ numbers slots number = value_at numbers number

-- the kept number of a cell; of another node its own
abbrev pub kept_by : Node → NumbersSeen → List ℕ → ℕ → ℕ
kept_by (CellNode width pointer offset) numbers slots number = slice_index numbers.cells (slice_index slots number)
kept_by _ numbers slots number = value_at numbers number

-- by its kept numbers alone, a node would take the number that it has, and leave its prior
abbrev pub IsQuiet : Node → NumbersSeen → List ℕ → ℕ → Type 0
IsQuiet (Const n) numbers slots number = value_at numbers number ≡ n
IsQuiet (CellNode width pointer offset) numbers slots number =
    (slice_index numbers.watches.places (slice_index slots number) ≡ place_in numbers pointer offset)
    × (slice_index numbers.cells (slice_index slots number) ≡ value_at numbers number)
    × (earlier_at numbers (slice_index slots number) ≡ value_at numbers number)
IsQuiet (View Prior size c) numbers slots number =
    (slice_index numbers.priors (slice_index slots number)
    ≡ prior_in numbers (mask_of size) (slice_index slots number) (slice_index slots c) c)
    × (value_at numbers number
    ≡ transformed Prior size (view_of size (slice_index numbers.priors (slice_index slots number))))
IsQuiet (View kind size c) numbers slots number =
    value_at numbers number ≡ transformed kind size
    (view_of size (looked_in kind numbers (mask_of size) (slice_index slots number) (slice_index slots c) c))
IsQuiet (Arith op left right) numbers slots number =
    value_at numbers number ≡ computed op (value_at numbers left) (value_at numbers right)

-- a node is no marked cell
abbrev pub IsUnmarked : Node → NumbersSeen → ℕ → Type 0
IsUnmarked (CellNode width pointer offset) numbers slot = slice_index_or numbers.watches.marked slot true ≡ false
IsUnmarked _ numbers slot = Unit {0}

-- each node that is not due would take the number that it has
abbrev pub AreQuiet : List Node → List Bool → NumbersSeen → List ℕ → Type 0
AreQuiet nodes due numbers slots =
    (n : ℕ) → n < length nodes → slice_index_or due n true ≡ false → IsQuiet (node_at nodes n) numbers slots n

-- and no marked cell is left out
pub record AreIdle (nodes : List Node) (due : List Bool) (numbers : NumbersSeen) (slots : List ℕ) : Type 0 where
  pub quiet : AreQuiet nodes due numbers slots
  pub unmarked : (n : ℕ) → n < length nodes → slice_index_or due n true ≡ false
      → IsUnmarked (node_at nodes n) numbers (slice_index slots n)

-- a node names another
abbrev pub Names : Node → ℕ → Type 0
Names (Const n) i = ⊥
Names (CellNode width pointer offset) i = i ≡ pointer
Names (View kind size c) i = i ≡ c
Names (Arith op left right) i = (i ≡ left) ⊎ (i ≡ right)

-- the entries of a node, on the row of each that it names
abbrev pub entries_of : (number : ℕ) → Node → List Entry
entries_of number (Const n) = []
entries_of number (CellNode width pointer offset) = record { row = pointer; number = number } ∷ []
entries_of number (View kind size c) = record { row = c; number = number } ∷ []
entries_of number (Arith op left right) =
    record { row = left; number = number } ∷ record { row = right; number = number } ∷ []

-- there is a row for each node, on which those stand that name it, and nodes alone
pub record AreDependents (nodes : List Node) (rows : List (List ℕ)) : Type 0 where
  pub rows_too : length rows ≡ length nodes
  pub each : (n i : ℕ) → n < length nodes → Names (node_at nodes n) i → IsListed n (row_at rows i)
  pub within : (n i : ℕ) → IsListed n (row_at rows i) → n < length nodes

-- the node of a cell stands in the cell's slot
abbrev pub HasCellNode : Node → List ℕ → ℕ → ℕ → Type 0
HasCellNode (CellNode width pointer offset) cell_nodes slot n = slice_index cell_nodes slot ≡ n
HasCellNode _ cell_nodes slot n = Unit {0}

-- these are the nodes of the cells that the first this many nodes spell, in order of first occurrence
pub record AreCellNodes (nodes : List Node) (count : ℕ) (cell_nodes : List ℕ) : Type 0 where
  pub long : length cell_nodes ≡ length (cells_before (spelled_by nodes) count)
  pub within : (k : ℕ) → k < length cell_nodes → slice_index cell_nodes k < count
  pub each : (n : ℕ) → n < count
      → HasCellNode (node_at nodes n) cell_nodes (length (cells_before (spelled_by nodes) n)) n

-- the marked cells are due too: what is still not due was not, and is the node of no marked cell
pub record IsGathered (cell_nodes : List ℕ) (marked old new : List Bool) : Type 0 where
  pub long : length new ≡ length old
  pub kept : (n : ℕ) → slice_index_or new n true ≡ false → slice_index_or old n true ≡ false
  pub marked_too : (cell : ℕ) → cell < length cell_nodes → slice_index_or marked cell true ≡ true
      → slice_index_or new (slice_index cell_nodes cell) true ≡ true
