-- What runs keep after the bytes of a progress file are put back: docs/DEFINITIONS.md, "What a runtime keeps".
use Rattle.std.specs.Prelude.{◌≡◌, ℕ, ◌||◌, true, Option, None, Some, List, [], ◌∷◌, slice_index}
use Rattle.ra_indirect.specs.declared.node.Node.{Node}
use Rattle.ra_leaderboard.specs.Contents.{BoardContents}
use Rattle.ra_set.specs.Contents.{ItemContents}
use Rattle.ra_progress.specs.declared.shape.ItemShape.{ItemShape}
use Rattle.ra_progress.specs.Contents.{KeptItem, plain_item}
use Rattle.ra_progress.specs.Layout.{version_in, item_length}
use Rattle.ra_progress.specs.Reading.{is_state}
use Rattle.ra_progress.specs.Saying.{said_or, said_item}
use Rattle.ra_items.specs.declared.board_run.BoardRun.{BoardRun}
use Rattle.ra_items.specs.declared.item_run.ItemRun.{ItemRun}
use Rattle.ra_meaning.specs.Earned.{is_earned, item_with}
use Rattle.ra_meaning.specs.Boards.{kept_board}
use Rattle.ra_items.specs.BoardRuns.{IsBoardRun, board_kept}
use Rattle.ra_items.specs.ItemRuns.{IsItemRun, kept_run}
use Rattle.ra_items.specs.Shapes.{board_run_shape, run_shape}
use Rattle.ra_display.specs.PresenceBack.{Holds}

-- where there is a block of an item, it lies within the bytes and its state byte is in the table
abbrev pub HasItem : List ℕ → Option ℕ → ItemShape → Type 0
HasItem bytes None shape = Unit {0}
HasItem bytes (Some at) shape =
    Holds bytes at (item_length shape) × (is_state (version_in bytes) shape (slice_index bytes at) ≡ true)

-- what an item keeps after a restore: what its block says, or the plain item without one; earned where it was, or is
-- said to be
abbrev pub restored_item : List ℕ → ItemRun → Option ℕ → KeptItem
restored_item bytes run place =
    let said = said_or (said_item bytes (run_shape run)) (plain_item (run_shape run)) place in
    item_with (is_earned (kept_run run) || is_earned said) said

-- what items keep after a restore, by the places of their blocks
abbrev pub restored_items : List ℕ → List ItemRun → List (Option ℕ) → List KeptItem
restored_items bytes (run ∷ runs) (place ∷ places) = restored_item bytes run place ∷ restored_items bytes runs places
restored_items bytes _ _ = []

-- a board is what its block says, or plain without one, and stays one with its plans
pub record PutsBackBoard (bytes : List ℕ) (place : Option ℕ) (old new : BoardRun) : Type 0 where
  pub kept : kept_board (board_kept new)
      ≡ said_or (said_item bytes (board_run_shape old)) (plain_item (board_run_shape old)) place
  pub run : (nodes : List Node) (b : BoardContents) → IsBoardRun nodes b old → IsBoardRun nodes b new

-- an item is what its block says, or plain without one, but stays earned, and stays one with its plans
pub record PutsBackItem (bytes : List ℕ) (place : Option ℕ) (old new : ItemRun) : Type 0 where
  pub kept : kept_run new ≡ restored_item bytes old place
  pub run : (nodes : List Node) (item : ItemContents) → IsItemRun nodes item old → IsItemRun nodes item new
