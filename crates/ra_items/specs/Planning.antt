-- What planning leaves in a pool, and how many nodes it takes at most: docs/DEFINITIONS.md, "Trees, cells and tracked
-- masks".
use Rattle.std.specs.Prelude.{◌≡◌, List, map, sum_by}
use Rattle.std.specs.List.{flat_map}
use Rattle.ra_indirect.specs.declared.node.Node.{Node}
use Rattle.ra_set.specs.Contents.{ItemContents}
use Rattle.ra_set.specs.Limits.{item_conditions}
use Rattle.ra_items.specs.declared.item_run.ItemRun.{ItemRun}
use Rattle.ra_member.specs.Plans.{GrowsWithin}
use Rattle.ra_meaning.specs.Order.{trees_in_item, item_shape}
use Rattle.ra_progress.specs.Contents.{plain_item}
use Rattle.ra_items.specs.ItemRuns.{kept_run}
use Rattle.ra_items.specs.AllRuns.{AreItemRuns}

-- the pool grows by the trees of these items, and by what their conditions may add at most
abbrev pub GrowsByItems : (old new : List Node) → List ItemContents → Type 0
GrowsByItems old new items = GrowsWithin old new (flat_map trees_in_item items) (sum_by item_conditions items)

-- each item has its plan over the pool, and waits
pub record AreWaiting (old new : List Node) (items : List ItemContents) (runs : List ItemRun) : Type 0 where
  pub grows : GrowsByItems old new items
  pub runs_too : AreItemRuns new items runs
  pub plain : map kept_run runs ≡ map plain_item (map item_shape items)
