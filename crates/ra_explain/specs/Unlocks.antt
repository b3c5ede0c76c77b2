-- Why an unlock came, by the history so far: docs/DEFINITIONS.md, "Explanations".
use Rattle.std.specs.Prelude.{◌≡◌, ℕ, ◌+◌, ◌-◌, ◌*◌, ◌≤◌, Bool, if◌then◌else◌, List, [], ◌∷◌, length, drop, reverse}
use Rattle.std.specs.List.{flat_map}
use Rattle.ra_condition.specs.Contents.{TriggerContents, groups_of, trigger_hits}
use Rattle.ra_memory.specs.Image.{History}
use Rattle.ra_trigger.specs.States.{is_waiting}
use Rattle.ra_member.specs.Frames.{lefts_at}
use Rattle.ra_explain.specs.Explains.{ExplanationContents, Explains, clears_at}
use Rattle.ra_explain.specs.Recorders.{plain_start, kept_after, row_of, rows_behind, rows_in_order, RecorderSeen}
use Rattle.ra_explain.specs.Recorders.{Stands}

-- the comparisons at all frames of a history, row by row, the oldest first
abbrev pub rows_along : TriggerContents → History → List Bool
rows_along t history = flat_map (λ row. row) (reverse (rows_behind t history))

-- the hits are cleared at this image after a history
abbrev pub clears_last : TriggerContents → List ℕ → History → Bool
clears_last t image earlier =
    clears_at t (row_of t (image ∷ earlier)) (lefts_at plain_start (image ∷ earlier) (groups_of t))
    (kept_after t earlier)

-- the row after the latest frame at which the hits are cleared, or 0
abbrev pub after_clear : TriggerContents → History → ℕ
after_clear t [] = 0
after_clear t (image ∷ earlier) = if clears_last t image earlier then length (image ∷ earlier)
    else after_clear t earlier

-- the state before a row of a history waits
abbrev pub waits_before : TriggerContents → History → ℕ → Bool
waits_before t history row = is_waiting (kept_after t (drop (length history - row) history)).state

-- An explanation of a history explains its rows: its last row is that of the last frame, and it goes from 0, or from
-- the
-- row after the latest earlier one at which the hits were cleared, and says whether the achievement waits before that
-- row.
pub record IsExplanation (t : TriggerContents) (image : List ℕ) (earlier : History)
    (e : ExplanationContents) : Type 0 where
  pub explains : Explains t (rows_along t (image ∷ earlier)) e
  pub last : e.last ≡ length earlier
  pub since : e.since ≡ after_clear t earlier
  pub waited : e.waited ≡ waits_before t earlier e.since

-- the same of a whole history, which has a last frame
abbrev pub ExplainsHistory : TriggerContents → History → ExplanationContents → Type 0
ExplainsHistory t [] e = ⊥
ExplainsHistory t (image ∷ earlier) e = IsExplanation t image earlier e

-- what is given explains each history for which the recorder stands
abbrev pub ExplainsBehind : RecorderSeen → ExplanationContents → Type 0
ExplainsBehind r e = (history : History) → Stands r history → ExplainsHistory r.trigger history e

-- an explanation has a row of each frame up to its last one, a list of events for each condition, and begins at a row
pub record FitsRows (r : RecorderSeen) (e : ExplanationContents) : Type 0 where
  pub rows : length (rows_in_order r.kept) ≡ (e.last + 1) * trigger_hits r.trigger
  pub since : e.since ≤ e.last
  pub events : length e.events ≡ trigger_hits r.trigger
