-- Leaderboards after a history: docs/DEFINITIONS.md, "Leaderboard states".
use Rattle.std.specs.Prelude.{ℕ, ◌-◌, Bool, if◌then◌else◌, List, [], ◌∷◌, length, get_or, ℤ}
use Rattle.ra_condition.specs.Contents.{PartContents}
use Rattle.ra_leaderboard.specs.declared.state.BoardState.{BoardState}
use Rattle.ra_leaderboard.specs.Contents.{BoardContents}
use Rattle.ra_leaderboard.specs.States.{board_byte, board_state_of, state_after, is_running, begins}
use Rattle.ra_memory.specs.Image.{History}
use Rattle.ra_memref.specs.Values.{Start}
use Rattle.ra_value.specs.Steps.{ValueKept, no_value, signed_greatest}
use Rattle.ra_progress.specs.Contents.{KeptItem, OfAchievement, OfBoard}
use Rattle.ra_member.specs.Folds.{after}
use Rattle.ra_member.specs.Members.{MemberKept, no_values, tests_next, tests_hold, values_next, saved_hits}
use Rattle.ra_member.specs.Members.{saved_numbers, opened_member}
use Rattle.ra_meaning.specs.Order.{board_member}

-- what is kept of a board between frames: its state, and what its tests and values keep
pub record BoardKept : Type 0 where
  pub state : BoardState
  pub member : MemberKept

-- the state after a frame: the truths of start, cancel and submit choose the row of the table
abbrev pub state_by : BoardState → List Bool → BoardState
state_by state (start ∷ cancel ∷ submit ∷ _) = state_after state start cancel submit
state_by state _ = state

-- the values of a board at the last frame, where the state goes from old to new: they begin anew, are stepped, or stay
abbrev pub running_values : Start → List (List PartContents) → History → (old new : BoardState)
    → List ValueKept → List ValueKept
running_values start values history old new kept =
    if is_running new then values_next start values history (if begins old new then no_values values
    else kept) else kept

-- a board after the last frame, from what was kept before it
abbrev pub board_next : Start → BoardContents → History → BoardKept → BoardKept
board_next start b history kept =
    let m = board_member b in
    let state = state_by kept.state (tests_hold start m.tests history kept.member.tests) in
    record {
      state = state;
      member = record {
        tests = tests_next start m.tests history kept.member.tests;
        values = running_values start m.values history kept.state state kept.member.values;
      };
    }

-- a board after a history, from what the opening keeps
abbrev pub board_after : Start → BoardContents → BoardKept → History → BoardKept
board_after start b opened history = after (board_next start b) opened history

-- the number of the value at a place
abbrev pub number_at : List ValueKept → ℕ → ℤ
number_at values place = signed_greatest (get_or values place (no_value [])).numbers

-- the number of a board's value, which is the first
abbrev pub value_number : BoardKept → ℤ
value_number kept = number_at kept.member.values 0

-- the number that an attempt tracks: that of the last value, which is the progress where the board has one
abbrev pub tracked_number : BoardKept → ℤ
tracked_number kept = number_at kept.member.values (length kept.member.values - 1)

-- what an opening keeps for a board: hits and numbers of a progress file, cut by the board's fields
abbrev pub opened_board : BoardContents → KeptItem → BoardKept
opened_board b (OfBoard state hits numbers) =
    record { state = board_state_of state; member = opened_member (board_member b) hits numbers }
opened_board b (OfAchievement state measured hits earned) =
    record { state = board_state_of state; member = opened_member (board_member b) hits [] }

-- a board as a progress file keeps it: hits and numbers in the order start, cancel, submit, value, progress
abbrev pub kept_board : BoardKept → KeptItem
kept_board k = OfBoard (board_byte k.state) (saved_hits k.member) (saved_numbers k.member)
