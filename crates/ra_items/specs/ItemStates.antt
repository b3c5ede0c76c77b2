-- Where the items of a set stand between frames: docs/DEFINITIONS.md, "What a runtime keeps".
use Rattle.std.specs.Prelude.{ℕ, Option, option_map, zip, slice_get}
use Rattle.ra_set.specs.Contents.{ItemContents, Unlocks, Ranks, SetContents}
use Rattle.ra_progress.specs.Contents.{KeptItem, Opening}
use Rattle.ra_items.specs.declared.item_run.ItemRun.{ItemRun}
use Rattle.ra_items.specs.declared.item_run.ItemRun.TheVariants as runs
use Rattle.ra_items.specs.declared.item_state.ItemState.{ItemState}
use Rattle.ra_items.specs.declared.item_state.ItemState.TheVariants.{Achievement, Leaderboard}
use Rattle.ra_meaning.specs.Boards.{opened_board, tracked_number}
use Rattle.ra_items.specs.BoardRuns.{board_kept}
use Rattle.ra_meaning.specs.Openings.{opened_achievement}

-- where an item stands, by what is kept of it
abbrev pub item_state : ItemContents × KeptItem → ItemState
item_state (Unlocks id t, kept) =
    let k = opened_achievement kept in
    Achievement k.state k.measured
item_state (Ranks id format b, kept) =
    let k = opened_board b kept in
    Leaderboard k.state (tracked_number k)

-- where the item at a place of a set stands, if there is one
abbrev pub state_at : SetContents → Opening → ℕ → Option ItemState
state_at set o place = option_map item_state (slice_get (zip set.items o.items) place)

-- where an item stands, by its run
abbrev pub run_state : ItemRun → ItemState
run_state (runs.Achievement run) = Achievement run.run.trigger.state run.run.trigger.measured
run_state (runs.Leaderboard run) = Leaderboard run.board (tracked_number (board_kept run))
