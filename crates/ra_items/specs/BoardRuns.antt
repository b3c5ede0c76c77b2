-- How leaderboards are kept and stepped: docs/DEFINITIONS.md, "Leaderboard states".
use Rattle.std.specs.Prelude.{◌≡◌, ℕ, List, [], ◌∷◌}
use Rattle.ra_condition.specs.Contents.{PartContents}
use Rattle.ra_indirect.specs.declared.node.Node.{Node}
use Rattle.ra_memory.specs.Image.{History}
use Rattle.ra_memref.specs.Values.{Start}
use Rattle.ra_memref.specs.Table.{TableSeen}
use Rattle.ra_leaderboard.specs.declared.state.BoardState.{BoardState}
use Rattle.ra_leaderboard.specs.declared.state.BoardState.TheVariants.{Waiting}
use Rattle.ra_leaderboard.specs.Contents.{BoardContents}
use Rattle.ra_member.specs.declared.member.Member.{Member}
use Rattle.ra_member.specs.MemberRuns.{IsMember, IsNewMember, kept_by}
use Rattle.ra_member.specs.Runs.{HasValues}
use Rattle.ra_items.specs.declared.board_run.BoardRun.{BoardRun}
use Rattle.ra_meaning.specs.Boards.{BoardKept, running_values, board_after, tracked_number}
use Rattle.ra_meaning.specs.Order.{board_member}

-- what a run of a board keeps
abbrev pub board_kept : BoardRun → BoardKept
board_kept run = record { state = run.board; member = kept_by run.member }

-- a board with its plans
abbrev pub IsBoardRun : List Node → BoardContents → BoardRun → Type 0
IsBoardRun nodes b run = IsMember nodes (board_member b) run.member

-- a board that waits, over a pool that grew by its trees
pub record IsNewBoard (old new : List Node) (b : BoardContents) (run : BoardRun) : Type 0 where
  pub made : IsNewMember old new (board_member b) run.member
  pub waits : run.board ≡ Waiting

-- the values of a board at a frame at which its state goes from one to another; its tests stay
pub record FollowsValues (table : TableSeen) (values : List (List PartContents))
    (before after : BoardState) (old new : Member) : Type 0 where
  pub kept : (start : Start) (history : History) → HasValues table start history
      → (kept_by new).values ≡ running_values start values history before after (kept_by old).values
  pub tests : (kept_by new).tests ≡ (kept_by old).tests

-- one frame of a board, and the record of it
pub record StepsBoard (table : TableSeen) (b : BoardContents) (old new : BoardRun) : Type 0 where
  pub kept : (start : Start) (image : List ℕ) → HasValues table start (image ∷ []) → board_kept new
      ≡ board_after start b (board_kept old) (image ∷ [])
  pub before : new.change.before ≡ old.board
  pub after : new.change.after ≡ new.board
  pub tracked : new.tracked_before ≡ tracked_number (board_kept old)
