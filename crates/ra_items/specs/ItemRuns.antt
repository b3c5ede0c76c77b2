-- How items are kept and stepped: docs/DEFINITIONS.md, "What a runtime keeps".
use Rattle.std.specs.Prelude.{◌≡◌, ℕ, List, [], ◌∷◌}
use Rattle.ra_indirect.specs.declared.node.Node.{Node}
use Rattle.ra_memref.specs.Values.{Start}
use Rattle.ra_memref.specs.Table.{TableSeen}
use Rattle.ra_set.specs.Contents.{ItemContents, Unlocks, Ranks}
use Rattle.ra_set.specs.Limits.{item_conditions}
use Rattle.ra_member.specs.Plans.{GrowsWithin}
use Rattle.ra_member.specs.Runs.{HasValues}
use Rattle.ra_items.specs.declared.item_run.ItemRun.{ItemRun}
use Rattle.ra_items.specs.declared.item_run.ItemRun.TheVariants.{Achievement, Leaderboard}
use Rattle.ra_meaning.specs.Boards.{kept_board}
use Rattle.ra_progress.specs.Contents.{KeptItem, plain_item}
use Rattle.ra_meaning.specs.Earned.{is_earned}
use Rattle.ra_meaning.specs.Openings.{item_after, kept_achievement}
use Rattle.ra_meaning.specs.Order.{trees_in_item, item_shape}
use Rattle.ra_meaning.specs.Play.{item_events, unless_earned}
use Rattle.ra_items.specs.Runs.{IsAchievementRun}
use Rattle.ra_items.specs.BoardRuns.{IsBoardRun, board_kept}
use Rattle.ra_items.specs.RunEvents.{run_events}

-- what an opening keeps for an item
abbrev pub kept_run : ItemRun → KeptItem
kept_run (Achievement run) = kept_achievement run.earned run.run.trigger
kept_run (Leaderboard run) = kept_board (board_kept run)

-- an item with its plans
abbrev pub IsItemRun : List Node → ItemContents → ItemRun → Type 0
IsItemRun nodes (Unlocks id t) (Achievement run) = IsAchievementRun nodes t run
IsItemRun nodes (Ranks id format b) (Leaderboard run) = IsBoardRun nodes b run
IsItemRun nodes _ _ = ⊥

-- an item that waits, over a pool that grew by its trees
pub record IsNewItem (old new : List Node) (item : ItemContents) (run : ItemRun) : Type 0 where
  pub grows : GrowsWithin old new (trees_in_item item) (item_conditions item)
  pub run_too : IsItemRun new item run
  pub plain : kept_run run ≡ plain_item (item_shape item)

-- One frame of an item, from what it keeps: what it keeps after it, and its events, which are none where it was earned.
pub record StepsItem (table : TableSeen) (item : ItemContents) (old new : ItemRun) : Type 0 where
  pub kept : (start : Start) (image : List ℕ) → HasValues table start (image ∷ []) → kept_run new
      ≡ item_after start (image ∷ []) (item, kept_run old)
  pub events : (start : Start) (image : List ℕ) → HasValues table start (image ∷ [])
      → run_events item new
      ≡ unless_earned (item_events start image []) (is_earned (kept_run old), (item, kept_run old))
