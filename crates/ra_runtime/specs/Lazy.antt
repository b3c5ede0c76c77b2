-- The shape of a set, whose names of cells and tracked masks are made late: docs/INTERNALS.md, "Names are made where
-- they are first needed".
use Rattle.std.specs.Prelude.{◌≡◌, ℕ, ◌≤◌, ◌^◌, Bool, true, List, length, map}
use Rattle.std.specs.Vec.{vec_capacity}
use Rattle.ra_indirect.specs.Pools.{cells_of, tracked_of}
use Rattle.ra_memref.specs.Names.{cell_name, tracked_name}
use Rattle.ra_memref.specs.Table.{TableSeen}
use Rattle.ra_progress.specs.declared.shape.Shape.{Shape}
use Rattle.ra_progress.specs.Contents.{Name, ShapeContents, shape_contents}
use Rattle.ra_progress.specs.Layout.{length_of}
use Rattle.ra_progress.specs.Names.{IsOrder, IsPaired, IsUsable, entry_names}
use Rattle.ra_runtime.specs.declared.lazy_shape.LazyShape.{LazyShape}

-- a shape with other names of cells and tracked masks
abbrev pub with_names : ShapeContents → (cells priors : List Name) → ShapeContents
with_names shape cells priors = record shape { cells = cells; priors = priors }

-- a shape is this one, and can be searched
pub record IsWhole (whole : ShapeContents) (shape : Shape) : Type 0 where
  pub same : shape_contents shape ≡ whole
  pub usable : IsUsable shape

-- the rows of a shape have memory for this many names of cells and of tracked masks, and for their orders
pub record HasRows (many_cells many_priors : ℕ) (shape : Shape) : Type 0 where
  pub cells : many_cells ≤ vec_capacity shape.cells
  pub priors : many_priors ≤ vec_capacity shape.priors
  pub cell_order : many_cells ≤ vec_capacity shape.cell_order
  pub prior_order : many_priors ≤ vec_capacity shape.prior_order

-- this many names of cells and of tracked masks, and their orders, are there, whatever they are; nothing else changes
pub record HasZeros (many_cells many_priors : ℕ) (old new : Shape) : Type 0 where
  pub cells : length new.cells.items ≡ many_cells
  pub priors : length new.priors.items ≡ many_priors
  pub cell_order : length new.cell_order.items ≡ many_cells
  pub prior_order : length new.prior_order.items ≡ many_priors
  pub rest : shape_contents new ≡ with_names (shape_contents old) new.cells.items new.priors.items
  pub entry_order : new.entry_order.items ≡ old.entry_order.items

-- there is room for this many names of cells and of tracked masks, and for their orders
pub record HasNameRoom (many_cells many_priors : ℕ) (t : LazyShape) : Type 0 where
  pub rows : HasRows many_cells many_priors t.shape
  pub few_cells : many_cells ≤ t.orders
  pub few_priors : many_priors ≤ t.orders
  pub few : t.orders ≤ 2 ^ 32

-- a shape is this one but for its names of cells and tracked masks, and is it once these are made
pub record IsLazy (whole : ShapeContents) (t : LazyShape) : Type 0 where
  pub shape : shape_contents t.shape ≡ with_names whole t.shape.cells.items t.shape.priors.items
  pub paired : IsPaired whole
  pub entries : IsOrder (entry_names whole) t.shape.entry_order.items
  pub short : length_of whole ≤ 8388608
  pub room : HasNameRoom (length whole.cells) (length whole.priors) t
  pub made : t.named ≡ true → IsWhole whole t.shape

-- the names of cells and tracked masks of a shape are those of a table, which has a number for each
pub record NamesTable (table : TableSeen) (whole : ShapeContents) : Type 0 where
  pub cells : map cell_name (cells_of table.nodes) ≡ whole.cells
  pub priors : map tracked_name (tracked_of table.nodes) ≡ whole.priors
  pub many_cells : length table.cells ≡ length whole.cells
  pub many_priors : length table.priors ≡ length whole.priors

-- the names are made, in the room that there is
pub record MakesNames (whole : ShapeContents) (old new : LazyShape) : Type 0 where
  pub lazy : IsLazy whole new
  pub whole_now : IsWhole whole new.shape
  pub room : new.room ≡ old.room

-- a shape is another one but for its names of cells and tracked masks, of which it has room for this many
pub record IsCopy (many_cells many_priors : ℕ) (shape copy : Shape) : Type 0 where
  pub same : shape_contents copy ≡ with_names (shape_contents shape) copy.cells.items copy.priors.items
  pub rows : HasRows many_cells many_priors copy
  pub entry_order : copy.entry_order.items ≡ shape.entry_order.items

-- there is room for the names of a table
pub record MayName (table : TableSeen) (t : LazyShape) : Type 0 where
  pub nodes : length table.nodes ≤ t.room
  pub room : HasNameRoom (length table.cells) (length table.priors) t
