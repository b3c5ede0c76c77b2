-- Leaderboards after a history, field by field: docs/DEFINITIONS.md, "Leaderboard states".
use Rattle.std.specs.Prelude.{◌≡◌, ℕ, if◌then◌else◌, Option, List, [], ◌∷◌, get_or, unwrap_or}
use Rattle.ra_condition.specs.Contents.{PartContents}
use Rattle.ra_leaderboard.specs.declared.state.BoardState.{BoardState}
use Rattle.ra_leaderboard.specs.Contents.{BoardContents}
use Rattle.ra_leaderboard.specs.States.{state_after, is_running, begins}
use Rattle.ra_memory.specs.Image.{History}
use Rattle.ra_memref.specs.Values.{Start}
use Rattle.ra_value.specs.Steps.{ValueKept, no_value}
use Rattle.ra_member.specs.Frames.{value_next}
use Rattle.ra_member.specs.Members.{HasShape}
use Rattle.ra_meaning.specs.Boards.{BoardKept, board_after}
use Rattle.ra_meaning.specs.Histories.{test_hits, test_truth}
use Rattle.ra_meaning.specs.Order.{board_member}

-- what is kept of a board, by its fields; a missing progress keeps nothing
pub record FieldsKept : Type 0 where
  pub state : BoardState
  pub start : List ℕ
  pub cancel : List ℕ
  pub submit : List ℕ
  pub value : ValueKept
  pub progress : ValueKept

-- the fields of what is kept of a board
abbrev pub fields_kept : BoardKept → FieldsKept
fields_kept kept = record {
  state = kept.state;
  start = get_or kept.member.tests 0 [];
  cancel = get_or kept.member.tests 1 [];
  submit = get_or kept.member.tests 2 [];
  value = get_or kept.member.values 0 (no_value []);
  progress = get_or kept.member.values 1 (no_value []);
}

-- the board's state after a history: the truths of its triggers at the last frame choose the row of the table
abbrev pub board_state : Start → BoardContents → FieldsKept → History → BoardState
board_state start b opened [] = opened.state
board_state start b opened (image ∷ earlier) =
    state_after (board_state start b opened earlier)
    (test_truth start b.start opened.start (image ∷ earlier))
    (test_truth start b.cancel opened.cancel (image ∷ earlier))
    (test_truth start b.submit opened.submit (image ∷ earlier))

-- a value of a board at the last frame, where the state goes from old to new: it begins anew, is stepped, or stays
abbrev pub running_value : Start → History → List PartContents → (old new : BoardState) → ValueKept → ValueKept
running_value start history parts old new kept =
    if is_running new then value_next start parts history (if begins old new then no_value parts else kept) else kept

-- a value of a board after a history
abbrev pub board_value : Start → BoardContents → FieldsKept → List PartContents → ValueKept → History → ValueKept
board_value start b opened parts kept [] = kept
board_value start b opened parts kept (image ∷ earlier) =
    running_value start (image ∷ earlier) parts (board_state start b opened earlier)
    (board_state start b opened (image ∷ earlier))
    (board_value start b opened parts kept earlier)

-- the parts of a progress that may be missing
abbrev pub progress_parts : Option (List PartContents) → List PartContents
progress_parts progress = unwrap_or progress []

-- the fields of a board after a history, from those that the opening keeps
abbrev pub fields_after : Start → BoardContents → FieldsKept → History → FieldsKept
fields_after start b opened history = record {
  state = board_state start b opened history;
  start = test_hits start b.start opened.start history;
  cancel = test_hits start b.cancel opened.cancel history;
  submit = test_hits start b.submit opened.submit history;
  value = board_value start b opened b.value opened.value history;
  progress = board_value start b opened (progress_parts b.progress) opened.progress history;
}

-- each field of a board after a history is what its own recursion over the history says
abbrev pub IsByFields : Start → BoardContents → BoardKept → Type 0
IsByFields start b opened =
    HasShape (board_member b) opened.member → (history : History) → fields_kept
    (board_after start b opened history) ≡ fields_after start b (fields_kept opened) history
