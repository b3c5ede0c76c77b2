-- What a recorder is seen as, the histories for which it stands, and what its calls do: docs/DEFINITIONS.md,
-- "Recorders".
use Rattle.std.specs.Prelude.{◌≡◌, ◌≢◌, ℕ, ◌+◌, ◌*◌, ◌<◌, ◌≤◌, Bool, false, not, ◌&&◌, Option, None, Some, List, []}
use Rattle.std.specs.Prelude.{◌∷◌, map, replicate, reverse, slice_set, slice_index_or}
use Rattle.std.specs.List.{flat_map}
use Rattle.ra_condition.specs.Contents.{TriggerContents, groups_of, trigger_hits}
use Rattle.ra_memory.specs.Image.{History, written}
use Rattle.ra_indirect.specs.Trees.{Cell, Tracked, same_cell, same_tracked, cells_in, tracked_in, firsts}
use Rattle.ra_chain.specs.Occurrence.{trees_in_trigger}
use Rattle.ra_memref.specs.Values.{Start, cell_number, tracked_number}
use Rattle.ra_trigger.specs.Kept.{no_trigger}
use Rattle.ra_trigger.specs.States.{is_triggered}
use Rattle.ra_trigger.specs.Steps.{TriggerKept}
use Rattle.ra_member.specs.Folds.{after}
use Rattle.ra_member.specs.Frames.{truths_at, achievement_next}
use Rattle.ra_explain.specs.declared.refused.ExplainRefused.{ExplainRefused}
use Rattle.ra_explain.specs.declared.refused.ExplainRefused.TheVariants.{Rows, Memory}

-- the plain opening: each cell and each tracked mask has the number 0
abbrev pub plain_start : Start
plain_start = record { number = λ c. 0; prior = λ t. 0 }

-- the cells of a trigger, each once, in order of first occurrence
abbrev pub trigger_cells : TriggerContents → List Cell
trigger_cells t = firsts same_cell (flat_map cells_in (trees_in_trigger t))

-- the tracked masks of a trigger, each once, in order of first occurrence
abbrev pub trigger_tracked : TriggerContents → List Tracked
trigger_tracked t = firsts same_tracked (flat_map tracked_in (trees_in_trigger t))

-- an achievement after a history, from the plain opening
abbrev pub kept_after : TriggerContents → History → TriggerKept
kept_after t history = after (achievement_next plain_start t) (no_trigger t) history

-- the comparisons at the last frame of a history, core first
abbrev pub row_of : TriggerContents → History → List Bool
row_of t history = truths_at plain_start history (groups_of t)

-- the comparisons at each frame of a history, the newest first
abbrev pub rows_behind : TriggerContents → History → List (List Bool)
rows_behind t [] = []
rows_behind t (image ∷ earlier) = row_of t (image ∷ earlier) ∷ rows_behind t earlier

-- what is kept of one history: the achievement, the kept numbers, and the rows from the latest one back
pub record KeptRows : Type 0 where
  pub trigger : TriggerKept
  pub cells : List ℕ
  pub priors : List ℕ
  pub rows : List (List Bool)

-- what is kept is that of the history: state and numbers are those after it, and the rows are those of its frames
pub record StandsFor (t : TriggerContents) (kept : KeptRows) (history : History) : Type 0 where
  pub trigger : kept.trigger ≡ kept_after t history
  pub cells : kept.cells ≡ map (λ c. cell_number plain_start c history) (trigger_cells t)
  pub priors : kept.priors ≡ map (λ m. tracked_number plain_start m history) (trigger_tracked t)
  pub rows : kept.rows ≡ rows_behind t history

-- what a caller sees of a recorder
pub record RecorderSeen : Type 0 where
  pub trigger : TriggerContents
  pub image : List ℕ
  -- how many frames were taken, whatever was restored
  pub frames : ℕ
  pub kept : KeptRows
  -- what each of the sixteen slots keeps; none where it is empty
  pub slots : List (Option KeptRows)
  -- the last frame was an unlock, and no restore came since
  pub unlocked : Bool

-- the slot is filled, and keeps this
abbrev pub Holds : RecorderSeen → ℕ → KeptRows → Type 0
Holds r slot kept = slice_index_or r.slots slot None ≡ Some kept

-- the slot is filled
abbrev pub IsFilled : RecorderSeen → ℕ → Type 0
IsFilled r slot = (kept : KeptRows) × Holds r slot kept

-- the recorder stands for the history
abbrev pub Stands : RecorderSeen → History → Type 0
Stands r history = StandsFor r.trigger r.kept history

-- the slot is filled and stands for the history
pub record SlotStands (r : RecorderSeen) (slot : ℕ) (history : History) : Type 0 where
  pub kept : KeptRows
  pub holds : Holds r slot kept
  pub stands : StandsFor r.trigger kept history

-- each history for which the recorder stood, it stands for
abbrev pub KeepsHistories : (old new : RecorderSeen) → Type 0
KeepsHistories old new = (history : History) → Stands old history → Stands new history

-- each history for which a filled slot stood, it stands for
abbrev pub KeepsSlots : (old new : RecorderSeen) → Type 0
KeepsSlots old new = (slot : ℕ) (history : History) → SlotStands old slot history → SlotStands new slot history

-- so does each slot but one
abbrev pub KeepsOtherSlots : (old new : RecorderSeen) → ℕ → Type 0
KeepsOtherSlots old new named =
    (slot : ℕ) (history : History) → slot ≢ named → SlotStands old slot history → SlotStands new slot history

-- the achievement unlocks at this image after a history: its line is printed there
abbrev pub unlocks_at : TriggerContents → List ℕ → History → Bool
unlocks_at t image earlier =
    not (is_triggered (kept_after t earlier).state) && is_triggered (kept_after t (image ∷ earlier)).state

-- how many rows and entries one frame more makes
abbrev pub product_of : RecorderSeen → ℕ
product_of r = (r.frames + 1) * (trigger_hits r.trigger + 1)

-- the most of them
abbrev pub most_rows : ℕ
most_rows = 67108864

-- A new recorder: an image of zeros, no frame, and no slot is filled; it stands for the empty history.
pub record IsNew (t : TriggerContents) (size : ℕ) (r : RecorderSeen) : Type 0 where
  pub trigger : r.trigger ≡ t
  pub image : r.image ≡ replicate size 0
  pub frames : r.frames ≡ 0
  pub slots : r.slots ≡ replicate 16 None
  pub unlocked : r.unlocked ≡ false
  pub stands : Stands r []

-- A write changes the written bytes alone.
abbrev pub IsWritten : (old new : RecorderSeen) → ℕ → List ℕ → Type 0
IsWritten old new at bytes = new ≡ record old { image = written old.image at bytes }

-- A frame goes on from every history for which the recorder stands, and answers whether the achievement unlocks there.
pub record TakesFrame (old new : RecorderSeen) (unlock : Bool) : Type 0 where
  pub few : product_of old ≤ most_rows
  pub rest : new ≡ record old { frames = old.frames + 1; kept = new.kept; unlocked = unlock }
  pub stands : (history : History) → Stands old history → Stands new (old.image ∷ history)
  pub answers : (history : History) → Stands old history → unlock ≡ unlocks_at old.trigger old.image history

-- The rows of one frame more are too many, and how many they are; or memory runs out.
abbrev pub RefusesFrame : RecorderSeen → ExplainRefused → Type 0
RefusesFrame r (Rows found) = (most_rows < product_of r) × (found ≡ product_of r)
RefusesFrame r Memory = product_of r ≤ most_rows

-- A save fills a slot with what is kept.
abbrev pub IsSaved : (old new : RecorderSeen) → ℕ → Type 0
IsSaved old new slot = new ≡ record old { slots = slice_set old.slots slot (Some old.kept) }

-- A restore takes up what a slot keeps.
abbrev pub IsRestored : (old new : RecorderSeen) → ℕ → Type 0
IsRestored old new slot =
    (kept : KeptRows) → Holds old slot kept → new ≡ record old { kept = kept; unlocked = false }

-- the recorder stands for each history for which a slot stood
abbrev pub TakesUpSlot : (old new : RecorderSeen) → ℕ → Type 0
TakesUpSlot old new slot = (history : History) → SlotStands old slot history → Stands new history

-- the rows of the history so far, the oldest first
abbrev pub rows_in_order : KeptRows → List Bool
rows_in_order kept = flat_map (λ row. row) (reverse kept.rows)
