-- Where the rows of an unlock begin: docs/DEFINITIONS.md, "Explanations".
use Rattle.std.specs.Prelude.{◌≡◌, ℕ, zero, suc, Bool, true, false, if◌then◌else◌, List, [], ◌∷◌, length}
use Rattle.ra_condition.specs.Contents.{TriggerContents, trigger_hits}
use Rattle.ra_memory.specs.Image.{History}
use Rattle.ra_trigger.specs.Kept.{no_trigger}
use Rattle.ra_trigger.specs.States.{is_waiting, is_triggered}
use Rattle.ra_trigger.specs.Steps.{TriggerKept, step}
use Rattle.ra_explain.specs.declared.beginning.Beginning.{Beginning}
use Rattle.ra_explain.specs.Explains.{ExplanationContents, Explains, row_at, clears_at}
use Rattle.ra_explain.specs.Recorders.{KeptRows, StandsFor, unlocks_at}

-- the state and the hits are the same
pub record CountAlike (a b : TriggerKept) : Type 0 where
  pub state : a.state ≡ b.state
  pub hits : a.hits ≡ b.hits

-- an achievement after this many rows, from the plain opening; no left value counts for its state and its hits
abbrev pub replayed : TriggerContents → List Bool → ℕ → TriggerKept
replayed t rows zero = no_trigger t
replayed t rows (suc row) = step t (row_at t rows row) [] (replayed t rows row)

-- the hits are cleared at a row
abbrev pub clears_row : TriggerContents → List Bool → ℕ → Bool
clears_row t rows row = clears_at t (row_at t rows row) [] (replayed t rows row)

-- the row after the latest one below a place at which the hits are cleared, or 0
abbrev pub begins_by : TriggerContents → List Bool → (place : ℕ) → ℕ
begins_by t rows zero = 0
begins_by t rows (suc row) = if clears_row t rows row then suc row else begins_by t rows row

-- a row steps an achievement, and whether its hits are cleared there is told
pub record StepsOver (t : TriggerContents) (row : List Bool) (old new : TriggerKept) (clears : Bool) : Type 0 where
  pub alike : CountAlike new (step t row [] old)
  pub told : clears ≡ clears_at t row [] old

-- the rows of an unlock at the last one begin there
pub record IsBeginning (t : TriggerContents) (rows : List Bool) (last : ℕ) (b : Beginning) : Type 0 where
  pub since : b.since ≡ begins_by t rows last
  pub waited : b.waited ≡ is_waiting (replayed t rows b.since).state

-- the achievement unlocks at the last row
pub record UnlocksLast (t : TriggerContents) (rows : List Bool) (last : ℕ) : Type 0 where
  pub before : is_triggered (replayed t rows last).state ≡ false
  pub after : is_triggered (replayed t rows (suc last)).state ≡ true

-- an explanation of rows, of which the last one unlocks
pub record ExplainsRows (t : TriggerContents) (rows : List Bool) (last : ℕ) (e : ExplanationContents) : Type 0 where
  pub explains : Explains t rows e
  pub last_too : e.last ≡ last
  pub since : e.since ≡ begins_by t rows last
  pub waited : e.waited ≡ is_waiting (replayed t rows e.since).state
  pub many : length e.events ≡ trigger_hits t

-- what is kept stands for some history that ends with an unlock
pub record StandsAtUnlock (t : TriggerContents) (kept : KeptRows) : Type 0 where
  pub image : List ℕ
  pub earlier : History
  pub stands : StandsFor t kept (image ∷ earlier)
  pub unlocks : unlocks_at t image earlier ≡ true
