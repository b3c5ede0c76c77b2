-- The text of `why`: docs/DEFINITIONS.md, "Account of an achievement".
use Rattle.std.specs.Prelude.{ℕ, ◌+◌, ◌-◌, ◌==◌, nat_lt, Bool, true, false, if◌then◌else◌, Option, None, Some, List, []}
use Rattle.std.specs.Prelude.{◌∷◌, ◌++◌, length, map, take, drop, slice_index, slice_index_or, codes, decimal}
use Rattle.std.specs.List.{flat_map, range_with_len}
use Rattle.ra_condition.specs.declared.condition.Condition.{Condition}
use Rattle.ra_condition.specs.Canonical.{condition_text}
use Rattle.ra_condition.specs.Chains.{places}
use Rattle.ra_condition.specs.Contents.{TriggerContents, condition_at, groups_of}
use Rattle.ra_trigger.specs.declared.state.State.{State}
use Rattle.ra_trigger.specs.declared.state.State.TheVariants.{Waiting, Active, Paused, Primed, Triggered}
use Rattle.ra_trigger.specs.States.{is_triggered}
use Rattle.ra_trigger.specs.Steps.{TriggerKept}
use Rattle.ra_memory.specs.Image.{History}
use Rattle.ra_explain.specs.Recorders.{kept_after}
use Rattle.ra_account.specs.Counting.{count_of, times_of}
use Rattle.ra_account.specs.Groups.{GroupRow, part_of, shown}
use Rattle.ra_account.specs.Marks.{width_of}
use Rattle.ra_account.specs.Nearness.{Lack, nearest_at, nearest_of}
use Rattle.ra_account.specs.Text.{Told, account_text, times_text, told_of}
use Rattle.ra_account.specs.Triggers.{TriggerRow, lack_of}
use Rattle.ra_why.specs.Frames.{frames_of}

-- the first line: the frame of the unlock, the last one; or that there was none
abbrev pub first_text : (unlocked : Bool) → (frames id : ℕ) → List ℕ
first_text true frames id = codes "unlock " ++ decimal (frames - 1) ++ codes " " ++ decimal id ++ codes "\n"
first_text false frames id = codes "no unlock " ++ decimal id ++ codes "\n"

-- the word of a state
abbrev pub state_word : State → List ℕ
state_word Waiting = codes "waiting"
state_word Active = codes "active"
state_word Paused = codes "paused"
state_word Primed = codes "primed"
state_word Triggered = codes "triggered"

-- how many frames a column has, where it has more than one
abbrev pub column_text : (width : ℕ) → List ℕ
column_text width = if nat_lt 1 width then codes " column " ++ decimal width else []

-- how many frames there are, what is kept after the last of them, and how wide a column is
abbrev pub frames_text : (frames : ℕ) → TriggerKept → List ℕ
frames_text frames kept =
    codes "frames " ++ decimal frames ++ codes " state " ++ state_word kept.state ++ codes " measured " ++ decimal
    kept.measured
    ++ column_text (width_of frames) ++ codes "\n"

-- the group and the place of a condition
abbrev pub place_text : (group place : ℕ) → List ℕ
place_text group place = decimal group ++ codes "." ++ decimal place

-- the lines of a condition, by what is told of it
abbrev pub condition_lines : (group place : ℕ) → Condition → (hits frames : ℕ) → Told → List ℕ
condition_lines group place c hits frames told =
    place_text group place ++ codes " " ++ condition_text c ++ codes "\n" ++ account_text c hits frames told

-- the lines of the conditions of a group, with their hits after the last frame, by what each frame shows of the group
abbrev pub group_lines : (group : ℕ) → List Condition → (hits : List ℕ) → (frames size : ℕ) → List GroupRow → List ℕ
group_lines group cs hits frames size rows =
    flat_map (λ j. condition_lines group j (condition_at cs j) (slice_index hits j) frames
    (told_of (map (shown cs size j) rows))) (places cs)

-- the lines of groups, from one on; hits and rows run over the conditions of all groups, and those of these start at a
-- place
abbrev pub groups_lines : (group from : ℕ) → List (List Condition) → (hits : List ℕ) → (frames size : ℕ) → List GroupRow
    → List ℕ
groups_lines group from [] hits frames size rows = []
groups_lines group from (cs ∷ groups) hits frames size rows =
    group_lines group cs (take (length cs) (drop from hits)) frames size (map (part_of cs from) rows)
    ++ groups_lines (group + 1) (from + length cs) groups hits frames size rows

-- the place of a condition, where it is wanted
abbrev pub want_text : (group place : ℕ) → Bool → List ℕ
want_text group place wanted = if wanted then codes " " ++ place_text group place else []

-- the places of the conditions of a group that are wanted
abbrev pub group_wants : (group : ℕ) → List Bool → List ℕ
group_wants group wants =
    flat_map (λ j. want_text group j (slice_index_or wants j false)) (range_with_len 0 (length wants))

-- the same of groups, from one on; the wants run over the conditions of all of them
abbrev pub groups_wants : (group : ℕ) → List (List Condition) → List Bool → List ℕ
groups_wants group [] wants = []
groups_wants group (cs ∷ groups) wants =
    group_wants group (take (length cs) wants) ++ groups_wants (group + 1) groups (drop (length cs) wants)

-- what is wanted, or a word where nothing is
abbrev pub wants_text : List (List Condition) → List Bool → List ℕ
wants_text groups wants = if count_of wants == 0 then codes " nothing" else groups_wants 0 groups wants

-- the last line: the nearest frame, what it wants, and whether it has a reset
abbrev pub nearest_text : List (List Condition) → (at : ℕ) → Option Lack → List ℕ
nearest_text groups at None = codes "nearest none\n"
nearest_text groups at (Some l) =
    codes "nearest " ++ decimal at ++ codes " wants" ++ wants_text groups l.wants
    ++ (if l.reset then codes " reset" else []) ++ codes "\n"

-- the lines of the trigger as a whole, by what each frame shows of it
abbrev pub whole_lines : TriggerContents → List TriggerRow → List ℕ
whole_lines t rows =
    times_text (codes "resets") (times_of (map (λ f. f.moment.reset) rows))
    ++ times_text (codes "paused") (times_of (map (λ f. f.moment.paused) rows))
    ++ times_text (codes "waited") (times_of (map (λ f. f.moment.waited) rows))
    ++ nearest_text (groups_of t) (nearest_at (map (lack_of t) rows)) (nearest_of (map (lack_of t) rows))

-- the text by what is kept after the last frame and what each frame shows
abbrev pub text_by : (id : ℕ) → TriggerContents → (size : ℕ) → TriggerKept → List TriggerRow → List ℕ
text_by id t size kept rows =
    first_text (is_triggered kept.state) (length rows) id
    ++ frames_text (length rows) kept
    ++ groups_lines 0 0 (groups_of t) kept.hits (length rows) size (map (λ f. f.row) rows)
    ++ whole_lines t rows

-- the text of `why` of an achievement with this id, over images of this size, after a history
abbrev pub why_text : (id : ℕ) → TriggerContents → (size : ℕ) → History → List ℕ
why_text id t size history = text_by id t size (kept_after t history) (frames_of t history)
