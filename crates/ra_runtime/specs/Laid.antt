-- A table that is laid out for a set, and what is kept over it: docs/DEFINITIONS.md, "What a runtime keeps".
use Rattle.std.specs.Prelude.{◌≡◌, ℕ, Option, List, length, ◌<◌, ◌≤◌, ◌^◌, option_map, map}
use Rattle.ra_indirect.specs.Pools.{cells_of, tracked_of}
use Rattle.ra_progress.specs.Contents.{KeptItem, KeptPresence, Opening, plain_item, plain_presence}
use Rattle.ra_meaning.specs.Order.{set_cells, set_tracked, item_shape, presence_shape}
use Rattle.ra_memref.specs.Table.{TableSeen, IsFresh}
use Rattle.ra_set.specs.Contents.{SetContents}
use Rattle.ra_items.specs.declared.item_run.ItemRun.{ItemRun}
use Rattle.ra_display.specs.declared.presence_run.PresenceRun.{PresenceRun}
use Rattle.ra_memref.specs.declared.names.Names.{Names}
use Rattle.ra_progress.specs.declared.shape.Shape.{Shape}
use Rattle.ra_runtime.specs.declared.shapes.Naming.{Naming}
use Rattle.ra_memref.specs.Names.{cell_name, tracked_name}
use Rattle.ra_items.specs.ItemRuns.{kept_run}
use Rattle.ra_items.specs.AllRuns.{AreItemRuns}
use Rattle.ra_display.specs.PresenceRuns.{IsOptionalPresence, optional_presence_kept}

-- what is kept, from a count, a table, and what the items and the display are seen to keep
abbrev pub opening_by : ℕ → TableSeen → List KeptItem → Option KeptPresence → Opening
opening_by count table kept presence =
    record { frames = count; cells = table.cells; priors = table.priors; items = kept; presence = presence }

-- the table is over the cells and tracked masks of the set
pub record IsOver (set : SetContents) (table : TableSeen) : Type 0 where
  pub cells : cells_of table.nodes ≡ set_cells set
  pub tracked : tracked_of table.nodes ≡ set_tracked set
  pub cells_many : length table.cells ≡ length (set_cells set)
  pub priors_many : length table.priors ≡ length (set_tracked set)

-- the names are those of the cells and of the tracked masks of a set
pub record NameSet (set : SetContents) (names : Names) : Type 0 where
  pub cells : names.cells.items ≡ map cell_name (set_cells set)
  pub priors_too : names.priors.items ≡ map tracked_name (set_tracked set)

-- a shape has these names of cells and tracked masks, in these orders
pub record HasNaming (naming : Naming) (shape : Shape) : Type 0 where
  pub cells : shape.cells ≡ naming.cells
  pub priors_too : shape.priors ≡ naming.priors
  pub cell_order : shape.cell_order ≡ naming.cell_order
  pub prior_order : shape.prior_order ≡ naming.prior_order

-- a table without a frame over the trees of a set, of at most 131,072 cells and as many tracked masks; runs that wait,
-- and a display that shows its last line
pub record IsLaidOut (set : SetContents) (size : ℕ) (table : TableSeen) (runs : List ItemRun)
    (presence : Option PresenceRun) : Type 0 where
  pub fresh : IsFresh table.nodes size table
  pub few : length table.nodes < 2 ^ 30
  pub over : IsOver set table
  pub few_cells : length (set_cells set) ≤ 131072
  pub few_tracked : length (set_tracked set) ≤ 131072
  pub runs_too : AreItemRuns table.nodes set.items runs
  pub plain : map kept_run runs ≡ map plain_item (map item_shape set.items)
  pub presence_too : IsOptionalPresence table.nodes set.script presence
  pub plain_too : optional_presence_kept presence ≡ option_map plain_presence (option_map presence_shape set.script)
