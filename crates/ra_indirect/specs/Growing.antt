-- A pool that grows by trees, in which what it did not have goes last: docs/DEFINITIONS.md, "Order of first
-- occurrence".
use Rattle.std.specs.Prelude.{◌≡◌, ℕ, ◌+◌, ◌<◌, ◌≤◌, Bool, true, false, if◌then◌else◌, List, [], ◌∷◌, ◌++◌, length}
use Rattle.std.specs.Prelude.{filter}
use Rattle.std.specs.List.{list_any, flat_map}
use Rattle.ra_indirect.specs.declared.node.Node.{Node}
use Rattle.ra_indirect.specs.declared.node.Node.TheVariants.{View}
use Rattle.ra_indirect.specs.Trees.{Tree, same_cell, same_tracked, cells_in, tracked_in}
use Rattle.ra_indirect.specs.Pools.{spelled_at, spelled_with, spelled_by, cell_in, tracked_at, cells_of, tracked_of}
use Rattle.ra_indirect.specs.Interned.{IsPool}

-- a list grown by others: each that it does not have yet goes last
abbrev pub grown : {A : Type 0} → (A → A → Bool) → List A → List A → List A
grown same old [] = old
grown same old (x ∷ xs) = grown same (if list_any (λ y. same y x) old then old else old ++ x ∷ []) xs

-- the old nodes are the first of the new ones
pub record IsFront (old new : List Node) : Type 0 where
  pub more : List Node
  pub whole : new ≡ old ++ more

-- the cells and the tracked masks grow by those of the trees
pub record GrowsBy (old new : List Node) (trees : List Tree) : Type 0 where
  pub front : IsFront old new
  pub pool : IsPool new
  pub cells : cells_of new ≡ grown same_cell (cells_of old) (flat_map cells_in trees)
  pub tracked : tracked_of new ≡ grown same_tracked (tracked_of old) (flat_map tracked_in trees)

-- the pool grew by what a node names first, and the node at the place spells what this one does
pub record GainsNode (old new : List Node) (node : Node) (place : ℕ) : Type 0 where
  pub front : IsFront old new
  pub within : place < length new
  pub spells : spelled_at (spelled_by new) place ≡ spelled_with (spelled_by old) node
  pub cells : cells_of new ≡ grown same_cell (cells_of old) (cell_in (spelled_with (spelled_by old) node))
  pub tracked : tracked_of new ≡ grown same_tracked (tracked_of old) (tracked_at (spelled_with (spelled_by old) node))

-- whether a node is a view of a cell
abbrev pub is_view : Node → Bool
is_view (View kind size c) = true
is_view _ = false

-- this many nodes are new at most, of them this many cells and this many views
pub record AddsAtMost (old new : List Node) (nodes cells views : ℕ) : Type 0 where
  pub nodes_too : length new ≤ length old + nodes
  pub cells_too : length (cells_of new) ≤ length (cells_of old) + cells
  pub views_too : length (filter is_view new) ≤ length (filter is_view old) + views
