-- The text of an explanation, and the record of a trace that decides it: docs/DEFINITIONS.md, "Explanations".
use Rattle.std.specs.Prelude.{ℕ, ◌+◌, ◌*◌, nat_lt, if◌then◌else◌, List, [], ◌∷◌, ◌++◌, length, take, drop, codes}
use Rattle.std.specs.Prelude.{decimal}
use Rattle.std.specs.List.{flat_map}
use Rattle.ra_condition.specs.declared.condition.Condition.{Condition}
use Rattle.ra_condition.specs.Contents.{TriggerContents, groups_of, trigger_hits}
use Rattle.ra_memory.specs.Image.{History}
use Rattle.ra_trace.specs.Entries.{Entry, Framed, Ended}
use Rattle.ra_meaning.specs.Play.{Moment, moved}
use Rattle.ra_explain.specs.Explains.{ExplanationContents}
use Rattle.ra_explain.specs.Recorders.{unlocks_at, most_rows}
use Rattle.ra_explain.specs.declared.explanation.Event.{Event}

-- the row of an event and the hits after it, after a blank
abbrev pub event_text : Event → List ℕ
event_text e = codes " " ++ decimal e.row ++ codes ":" ++ decimal e.hits

-- the events of a condition, and a word where there are none
abbrev pub events_text : List Event → List ℕ
events_text [] = codes " none"
events_text (e ∷ es) = flat_map event_text (e ∷ es)

-- the line of a condition: its group, its place in it, and its events
abbrev pub condition_line : (group place : ℕ) → List Event → List ℕ
condition_line group place own = decimal group ++ codes "." ++ decimal place ++ events_text own ++ codes "\n"

-- the lines of the conditions of a group, from a place on
abbrev pub conditions_text : (group place : ℕ) → List (List Event) → List ℕ
conditions_text group place [] = []
conditions_text group place (own ∷ events) = condition_line group place own ++ conditions_text group (place + 1) events

-- the lines of groups, from one on; the events run over the conditions of all of them
abbrev pub groups_text : (group : ℕ) → List (List Condition) → List (List Event) → List ℕ
groups_text group [] events = []
groups_text group (cs ∷ groups) events =
    conditions_text group 0 (take (length cs) events) ++ groups_text (group + 1) groups (drop (length cs) events)

-- the first lines of an explanation: the row of the unlock and the id, and the row from which on the hits counted
abbrev pub unlock_text : (id : ℕ) → ExplanationContents → List ℕ
unlock_text id e =
    codes "unlock " ++ decimal e.last ++ codes " " ++ decimal id ++ codes "\nsince " ++ decimal e.since ++ codes "\n"

-- the text of an explanation
abbrev pub explanation_text : (id : ℕ) → TriggerContents → ExplanationContents → List ℕ
explanation_text id t e = unlock_text id e ++ groups_text 0 (groups_of t) e.events

-- the line where no unlock came up to the end record
abbrev pub no_unlock_text : (id : ℕ) → List ℕ
no_unlock_text id = codes "no unlock " ++ decimal id ++ codes "\n"

-- why a trace is read no further: an unlock, at an image after a history; a frame too many; the end record; or where
-- the trace stops before it
pub data Reason : Type 0 where
  AtUnlock : (image : List ℕ) → (earlier : History) → Reason
  AtRows : (found : ℕ) → Reason
  AtEnd : Reason
  AtStop : Reason

-- what decides, and how many records lie before it
pub record Decided : Type 0 where
  pub records : ℕ
  pub reason : Reason

-- the next record decides
abbrev pub decided : Reason → Decided
decided reason = record { records = 0; reason = reason }

-- another record lies before
abbrev pub behind_record : Decided → Decided
behind_record d = record { records = d.records + 1; reason = d.reason }

-- how many rows and comparisons one frame more makes
abbrev pub rows_with : TriggerContents → (frames : ℕ) → ℕ
rows_with t frames = (frames + 1) * (trigger_hits t + 1)

-- what decides, of records from a moment on, where this many frames were taken
abbrev pub decided_from : TriggerContents → Moment → (frames : ℕ) → List Entry → Decided
decided_from t m frames [] = decided AtStop
decided_from t m frames (Ended ∷ entries) = decided AtEnd
decided_from t m frames (Framed ∷ entries) =
    if nat_lt most_rows (rows_with t frames) then decided (AtRows (rows_with t frames))
    else if unlocks_at t m.image m.behind then decided (AtUnlock m.image m.behind)
    else behind_record (decided_from t (moved Framed m) (frames + 1) entries)
decided_from t m frames (entry ∷ entries) = behind_record (decided_from t (moved entry m) frames entries)
