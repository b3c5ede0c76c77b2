-- Trees, and the cells and tracked masks in them: docs/DEFINITIONS.md, "Trees, cells and tracked masks" and "Order of
-- first occurrence".
use Rattle.std.specs.Prelude.{ℕ, ◌==◌, ◌&&◌, Bool, false, not, List, [], ◌∷◌, ◌++◌, filter}
use Rattle.ra_operand.specs.declared.size.Size.{Size}
use Rattle.ra_operand.specs.declared.kind.Kind.{Kind}
use Rattle.ra_operand.specs.declared.kind.Kind.TheVariants.{Prior}
use Rattle.ra_operand.specs.declared.op.Op.{Op}
use Rattle.ra_operand.specs.Views.{mask_of, width_of}
use Rattle.ra_operand.specs.Same.{same_size, same_kind, same_op}

-- a constant, an operator over two trees, or a view of the cell at an address that a pointer moves
pub data Tree : Type 0 where
  constant : ℕ → Tree
  join : Op → (left right : Tree) → Tree
  view : Kind → Size → (pointer : Tree) → (address : ℕ) → Tree

-- a cell: the tree of its pointer, its address from there, and its width in bytes
pub record Cell : Type 0 where
  pub pointer : Tree
  pub address : ℕ
  pub width : ℕ

-- the cell of a view: as wide as its size
abbrev pub cell_of : Size → Tree → ℕ → Cell
cell_of size pointer address = record { pointer = pointer; address = address; width = width_of size }

-- a cell with the mask of a prior operand
pub record Tracked : Type 0 where
  pub cell : Cell
  pub mask : ℕ

-- the two trees are one: all their parts are
abbrev pub same_tree : Tree → Tree → Bool
same_tree (constant m) (constant n) = m == n
same_tree (join o x y) (join p u v) = same_op o p && (same_tree x u && same_tree y v)
same_tree (view k s p a) (view l t q b) = same_kind k l && (same_size s t && (a == b && same_tree p q))
same_tree _ _ = false

-- the two cells are one: pointers, addresses and widths are equal
abbrev pub same_cell : Cell → Cell → Bool
same_cell c d = c.address == d.address && (c.width == d.width && same_tree c.pointer d.pointer)

-- the two tracked masks are one: cells and masks are equal
abbrev pub same_tracked : Tracked → Tracked → Bool
same_tracked s t = s.mask == t.mask && same_cell s.cell t.cell

-- the cells of a tree in order of occurrence, a pointer's before the cell that it moves
abbrev pub cells_in : Tree → List Cell
cells_in (constant n) = []
cells_in (join op left right) = cells_in left ++ cells_in right
cells_in (view kind size pointer address) = cells_in pointer ++ cell_of size pointer address ∷ []

-- the mask that a view tracks: that of its size for a prior view, none for others
abbrev pub tracked_by : Kind → Size → Cell → List Tracked
tracked_by Prior size c = record { cell = c; mask = mask_of size } ∷ []
tracked_by _ size c = []

-- the tracked masks of a tree in order of occurrence
abbrev pub tracked_in : Tree → List Tracked
tracked_in (constant n) = []
tracked_in (join op left right) = tracked_in left ++ tracked_in right
tracked_in (view kind size pointer address) =
    tracked_in pointer ++ tracked_by kind size (cell_of size pointer address)

-- each of the list once, in order of first occurrence
abbrev pub firsts : {A : Type 0} → (A → A → Bool) → List A → List A
firsts same [] = []
firsts same (x ∷ xs) = x ∷ filter (λ y. not (same x y)) (firsts same xs)
