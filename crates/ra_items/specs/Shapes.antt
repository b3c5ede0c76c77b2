-- How many numbers runs keep: docs/DEFINITIONS.md, "Shape of a set".
use Rattle.std.specs.Prelude.{◌≤◌, length}
use Rattle.ra_progress.specs.declared.shape.ItemShape.{ItemShape}
use Rattle.ra_progress.specs.declared.shape.ItemShape.TheVariants as shapes
use Rattle.ra_member.specs.Members.{saved_hits, saved_numbers}
use Rattle.ra_member.specs.MemberRuns.{kept_by}
use Rattle.ra_items.specs.declared.board_run.BoardRun.{BoardRun}
use Rattle.ra_items.specs.declared.item_run.ItemRun.{ItemRun}
use Rattle.ra_items.specs.declared.item_run.ItemRun.TheVariants.{Achievement, Leaderboard}

-- the shape of a board, by the numbers that its run keeps
abbrev pub board_run_shape : BoardRun → ItemShape
board_run_shape run =
    shapes.Leaderboard (length (saved_hits (kept_by run.member))) (length (saved_numbers (kept_by run.member)))

-- the shape of an item, by the numbers that its run keeps
abbrev pub run_shape : ItemRun → ItemShape
run_shape (Achievement run) = shapes.Achievement (length run.run.trigger.hits)
run_shape (Leaderboard run) = board_run_shape run

-- an item of this shape is within the limits of a set
abbrev pub IsSmall : ItemShape → Type 0
IsSmall (shapes.Achievement hits) = hits ≤ 65536
IsSmall (shapes.Leaderboard hits parts) = (hits ≤ 65536) × (parts ≤ 65536)
