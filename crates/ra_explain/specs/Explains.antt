-- Explanations of an unlock: docs/DEFINITIONS.md, "Explanations".
use Rattle.std.specs.Prelude.{◌≡◌, ◌≢◌, ◌⊎◌, ℕ, zero, suc, ◌+◌, ◌*◌, ◌<◌, ◌≤◌, Bool, true, false, nat_le, ◌==◌}
use Rattle.std.specs.Prelude.{if◌then◌else◌, List, [], ◌∷◌, length, map, take, drop, replicate}
use Rattle.std.specs.List.{AllByRecursion}
use Rattle.ra_condition.specs.Contents.{TriggerContents, trigger_hits}
use Rattle.ra_trigger.specs.declared.state.State.{State}
use Rattle.ra_trigger.specs.declared.state.State.TheVariants.{Waiting}
use Rattle.ra_trigger.specs.States.{is_waiting, is_triggered, is_cleared}
use Rattle.ra_trigger.specs.Steps.{TriggerKept, Together, together, step}
use Rattle.ra_explain.specs.declared.explanation.Event.{Event}
use Rattle.ra_explain.specs.declared.explanation.Explanation.{Explanation}

-- what an explanation contains: the events of each condition, core first
pub record ExplanationContents : Type 0 where
  pub last : ℕ
  pub since : ℕ
  pub waited : Bool
  pub events : List (List Event)

-- the contents of an explanation
abbrev pub explanation_contents : Explanation → ExplanationContents
explanation_contents e =
    record { last = e.last; since = e.since; waited = e.waited; events = map (λ own. own.list.items) e.events.items }

-- the comparisons of a row, of rows that stand one after the other
abbrev pub row_at : TriggerContents → List Bool → ℕ → List Bool
row_at t rows row = take (trigger_hits t) (drop (row * trigger_hits t) rows)

-- the events rise from a row on, up to the last one, and each changes the hits
abbrev pub AreRising : (from last hits : ℕ) → List Event → Type 0
AreRising from last hits [] = Unit {0}
AreRising from last hits (e ∷ es) =
    (from ≤ e.row) × (e.row ≤ last) × (e.hits ≢ hits) × AreRising (e.row + 1) last e.hits es

-- the hits of a condition after a row: those of its latest event up to it, or these
abbrev pub said_from : ℕ → List Event → ℕ → ℕ
said_from hits [] row = hits
said_from hits (e ∷ es) row = if nat_le e.row row then said_from e.hits es row else said_from hits es row

-- the hits of all conditions after a row
abbrev pub said_after : ExplanationContents → ℕ → List ℕ
said_after e row = map (λ own. said_from 0 own row) e.events

-- and before it
abbrev pub said_before : ExplanationContents → ℕ → List ℕ
said_before e zero = replicate (length e.events) 0
said_before e (suc row) = said_after e row

-- what all groups say at a row together; no left value counts for it
abbrev pub says_at : TriggerContents → List Bool → ExplanationContents → ℕ → Together
says_at t rows e row = together t (row_at t rows row) [] (said_before e row)

-- The rows are explained: the events are the changes of the hits from a row on where all were 0, no row resets, and
-- the last row is valid and no earlier one.
pub record Explains (t : TriggerContents) (rows : List Bool) (e : ExplanationContents) : Type 0 where
  pub rising : AllByRecursion (AreRising e.since e.last 0) e.events
  pub counts : (row : ℕ) → e.since ≤ row → row ≤ e.last → said_after e row ≡ (says_at t rows e row).hits
  pub resets : (row : ℕ) → e.since ≤ row → row ≤ e.last → (says_at t rows e row).reset ≡ false
  pub valid : (says_at t rows e e.last).valid ≡ true
  pub earlier : (row : ℕ) → e.since ≤ row → row < e.last → (says_at t rows e row).valid ≡ false
  pub waited : (e.waited ≡ false) ⊎ (e.since < e.last)

-- an achievement after this many rows from one on, with any left values
abbrev pub kept_through : TriggerContents → List Bool → (ℕ → List ℕ) → TriggerKept → (from count : ℕ) → TriggerKept
kept_through t rows lefts kept from zero = kept
kept_through t rows lefts kept from (suc count) =
    step t (row_at t rows (from + count)) (lefts (from + count)) (kept_through t rows lefts kept from count)

-- the state is waiting, or active, paused or primed
abbrev pub BeginsIn : Bool → State → Type 0
BeginsIn true state = state ≡ Waiting
BeginsIn false state = (is_waiting state ≡ false) × (is_triggered state ≡ false)

-- nothing is cleared at a row
abbrev pub clears_at : TriggerContents → List Bool → List ℕ → TriggerKept → Bool
clears_at t row lefts old =
    is_cleared old.state (together t row lefts old.hits).reset (together t row lefts old.hits).valid

-- an achievement goes through one row: it clears nothing, has these hits after it, and is triggered or not
pub record PassesRow (t : TriggerContents) (row : List Bool) (lefts : List ℕ) (old : TriggerKept)
    (hits : List ℕ) (triggered : Bool) : Type 0 where
  pub clears : clears_at t row lefts old ≡ false
  pub hits_too : (step t row lefts old).hits ≡ hits
  pub before : is_triggered old.state ≡ false
  pub after : is_triggered (step t row lefts old).state ≡ triggered

-- From no hits, and waiting or not as the explanation says, an achievement goes through the rows up to the last one
-- without clearing anything, has the hits of the events after each row, and becomes triggered at the last and not
-- before.
abbrev pub UnlockFollows : TriggerContents → List Bool → ExplanationContents → Type 0
UnlockFollows t rows e =
    (lefts : ℕ → List ℕ) (kept : TriggerKept) → kept.hits ≡ replicate (length e.events) 0 → BeginsIn e.waited kept.state
    → (count : ℕ) → e.since + count ≤ e.last
    → PassesRow t (row_at t rows (e.since + count)) (lefts (e.since + count)) (kept_through t rows
    lefts kept e.since count) (said_after e (e.since + count)) (e.since + count == e.last)
