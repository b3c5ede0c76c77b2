-- Where a table keeps the number of each cell and of each tracked mask: docs/DEFINITIONS.md, "Order of first
-- occurrence".
use Rattle.std.specs.Prelude.{◌≡◌, ℕ, suc, ◌<◌, List, [], ◌∷◌, ◌++◌, length, map, take, slice_index, Option, None, Some}
use Rattle.std.specs.Prelude.{Contains}
use Rattle.std.specs.List.{flat_map}
use Rattle.ra_operand.specs.declared.size.Size.{Size}
use Rattle.ra_operand.specs.declared.kind.Kind.TheVariants.{Prior}
use Rattle.ra_operand.specs.Views.{mask_of}
use Rattle.ra_indirect.specs.declared.node.Node.{Node}
use Rattle.ra_indirect.specs.declared.node.Node.TheVariants.{Cell as CellNode, View}
use Rattle.ra_indirect.specs.Trees.{Cell, Tracked, same_tracked, firsts}
use Rattle.ra_indirect.specs.Pools.{Spelled, IsTree, IsCell, spelled_at, spelled_by, cell_in, tracked_at, tracked_of}
use Rattle.ra_indirect.specs.Pools.{node_at}
use Rattle.ra_indirect.specs.Interned.{Interns}
use Rattle.ra_memref.specs.declared.layout.TrackedMask.{TrackedMask}
use Rattle.ra_memref.specs.Table.{no_cell}

-- the cells that the first this many nodes spell, in order of first occurrence
abbrev pub cells_before : List Spelled → ℕ → List Cell
cells_before spelled n = flat_map cell_in (take n spelled)

-- the masks that the first this many nodes track, in order of first occurrence
abbrev pub tracked_before : List Spelled → ℕ → List Tracked
tracked_before spelled n = firsts same_tracked (flat_map tracked_at (take n spelled))

-- the cell that a node spells; none where it spells a tree
abbrev pub cell_there : Spelled → Cell
cell_there (IsCell c) = c
cell_there (IsTree tree) = no_cell

-- the mask that a prior view of a size tracks, of the cell that a node spells
abbrev pub tracked_there : List Spelled → Size → ℕ → Tracked
tracked_there spelled size c = record { cell = cell_there (spelled_at spelled c); mask = mask_of size }

-- the slot of a node: a cell has the next one, and a prior view that of the mask that it tracks
abbrev pub HasSlot : List Spelled → ℕ → Node → ℕ → Type 0
HasSlot spelled n (CellNode width pointer offset) slot = slot ≡ length (cells_before spelled n)
HasSlot spelled n (View Prior size c) slot =
    Interns (tracked_before spelled n) (tracked_before spelled (suc n)) (tracked_there spelled size c) slot
HasSlot spelled n _ slot = Unit {0}

-- each node of the pool has its slot
pub record IsLaid (nodes : List Node) (slots : List ℕ) : Type 0 where
  pub as_many : length slots ≡ length nodes
  pub each : (n : ℕ) → n < length nodes → HasSlot (spelled_by nodes) n (node_at nodes n) (slice_index slots n)

-- a node takes a slot: a cell puts its address last, and a prior view interns its mask
abbrev pub TakesSlot : Node → (places places' : List ℕ) → (masks masks' : List TrackedMask) → ℕ → Type 0
TakesSlot (CellNode width pointer offset) places places' masks masks' slot =
    (slot ≡ length places) × (places' ≡ places ++ offset ∷ []) × (masks' ≡ masks)
TakesSlot (View Prior size c) places places' masks masks' slot =
    (places' ≡ places) × Interns masks masks' (record { cell = c; mask = mask_of size }) slot
TakesSlot _ places places' masks masks' slot = (places' ≡ places) × (masks' ≡ masks)

-- the mask that a node tracks, if it is a prior view
abbrev pub mask_in : Node → Option TrackedMask
mask_in (View Prior size c) = Some (record { cell = c; mask = mask_of size })
mask_in _ = None

-- the tracked mask that a mask of a node's cell stands for
abbrev pub tracked_of_mask : List Node → TrackedMask → Tracked
tracked_of_mask nodes m = record { cell = cell_there (spelled_at (spelled_by nodes) m.cell); mask = m.mask }

-- it is a mask of a cell of the pool
abbrev pub IsOfCell : List Node → TrackedMask → Type 0
IsOfCell nodes m =
    (m.cell < length nodes) × (spelled_at (spelled_by nodes) m.cell
    ≡ IsCell (cell_there (spelled_at (spelled_by nodes) m.cell)))

-- these are the tracked masks of the pool, each of a cell of it
pub record AreMasks (nodes : List Node) (masks : List TrackedMask) : Type 0 where
  pub tracked : map (tracked_of_mask nodes) masks ≡ tracked_of nodes
  pub of_cells : (m : TrackedMask) → Contains masks m → IsOfCell nodes m
