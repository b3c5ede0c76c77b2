-- What a recording is seen as, an achievement over images that its caller holds, and its calls: docs/DEFINITIONS.md,
-- "A frame that looks".
use Rattle.std.specs.Prelude.{◌≡◌, ℕ, ◌+◌, ◌-◌, ◌<◌, ◌≤◌, Bool, true, false, not, Option, None, Some, List, ◌∷◌, length}
use Rattle.std.specs.Prelude.{map, replicate, count_by, slice_set, slice_index, slice_index_or}
use Rattle.ra_condition.specs.Contents.{TriggerContents}
use Rattle.ra_memory.specs.Image.{History, raw}
use Rattle.ra_memref.specs.Values.{cell_place}
use Rattle.ra_memref.specs.Marks.{marks_after, marks_seen, reads_of}
use Rattle.ra_memref.specs.Table.{DifferWithin, no_cell}
use Rattle.ra_explain.specs.declared.refused.ExplainRefused.{ExplainRefused}
use Rattle.ra_explain.specs.Recorders.{KeepsSlots, KeptRows, RefusesFrame, StandsFor, RecorderSeen, IsNew, TakesFrame}
use Rattle.ra_explain.specs.Recorders.{plain_start, trigger_cells}

-- what a caller sees: a recorder but for its image, the size of the images, the marked cells, and where each lies
pub record RecordingSeen : Type 0 where
  pub trigger : TriggerContents
  pub size : ℕ
  pub frames : ℕ
  pub kept : KeptRows
  pub slots : List (Option KeptRows)
  pub unlocked : Bool
  pub marked : List Bool
  pub places : List ℕ

-- a recording and an image are what a recorder is seen as
abbrev pub over : RecordingSeen → List ℕ → RecorderSeen
over recording image = record {
  trigger = recording.trigger;
  image = image;
  frames = recording.frames;
  kept = recording.kept;
  slots = recording.slots;
  unlocked = recording.unlocked;
}

-- each cell that is not marked has the image's number at its place
abbrev pub IsCurrent : RecordingSeen → List ℕ → Type 0
IsCurrent recording image =
    (k : ℕ) → k < length recording.kept.cells → slice_index_or recording.marked k true ≡ false →
    slice_index recording.kept.cells k
    ≡ raw (slice_index_or (trigger_cells recording.trigger) k no_cell).width image (slice_index recording.places k)

-- Before the first frame: a new recorder where the image is all 0, each cell marked and at its address, every image
-- current.
pub record IsBegun (t : TriggerContents) (size : ℕ) (recording : RecordingSeen) : Type 0 where
  pub made : IsNew t size (over recording (replicate size 0))
  pub size_too : recording.size ≡ size
  pub marked : recording.marked ≡ replicate (length (trigger_cells t)) true
  pub places : recording.places ≡ map (λ c. c.address) (trigger_cells t)
  pub current : (image : List ℕ) → IsCurrent recording image

-- A change is told: the cells that watch its pages are marked, and what was current is current after it.
pub record IsTold (old new : RecordingSeen) (at count : ℕ) : Type 0 where
  pub rest : new ≡ record old { marked = new.marked }
  pub marked : new.marked ≡ marks_after old.size (trigger_cells old.trigger) old.places at count old.marked
  pub current : (image image' : List ℕ) → length image ≡ old.size → DifferWithin at count image image'
      → IsCurrent old image → IsCurrent new image'

-- An image is looked at: the cells with another number in it than the kept one are marked, and nothing else changes.
pub record LooksAt (old new : RecordingSeen) (image : List ℕ) : Type 0 where
  pub rest : new ≡ record old { marked = new.marked }
  pub marked : new.marked ≡ marks_seen image (trigger_cells old.trigger) old.places old.kept.cells old.marked
  pub current : IsCurrent new image

-- A frame reads each cell that is marked or has moved, and no other; it leaves none marked.
pub record ReadsFew (old new : RecordingSeen) (image : List ℕ) (reads : ℕ) : Type 0 where
  pub unmarked : new.marked ≡ replicate (length (trigger_cells old.trigger)) false
  pub places : (history : History) → StandsFor old.trigger old.kept history
      → new.places ≡ map (λ c. cell_place plain_start c (image ∷ history)) (trigger_cells old.trigger)
  pub counted : reads ≡ reads_of old.marked old.places new.places

-- A frame that looks reads each cell that is not marked, then each that is marked by then or moved; it leaves none
-- marked.
pub record ReadsLooked (old new : RecordingSeen) (image : List ℕ) (reads : ℕ) : Type 0 where
  pub unmarked : new.marked ≡ replicate (length (trigger_cells old.trigger)) false
  pub places : (history : History) → StandsFor old.trigger old.kept history
      → new.places ≡ map (λ c. cell_place plain_start c (image ∷ history)) (trigger_cells old.trigger)
  pub counted : reads ≡ count_by not old.marked
      + reads_of (marks_seen image (trigger_cells old.trigger) old.places old.kept.cells old.marked)
      old.places new.places

-- After a frame of an image, taken or refused, each slot stands for what it stood for, the image is current, and the
-- size stays.
pub record StaysOver (old new : RecordingSeen) (image : List ℕ) : Type 0 where
  pub slots : KeepsSlots (over old image) (over new image)
  pub current : IsCurrent new image
  pub size : new.size ≡ old.size

-- A frame is taken of an image of which each change was told or looked for; the reads so far are counted before and
-- after.
pub record TakesTold (old new : RecordingSeen) (image : List ℕ) (before after : ℕ) (unlock : Bool) : Type 0 where
  pub frame : TakesFrame (over old image) (over new image) unlock
  pub reads : ReadsFew old new image (after - before)
  pub counts : before ≤ after

-- A frame is taken of any image, after a look.
pub record TakesLooked (old new : RecordingSeen) (image : List ℕ) (before after : ℕ) (unlock : Bool) : Type 0 where
  pub frame : TakesFrame (over old image) (over new image) unlock
  pub reads : ReadsLooked old new image (after - before)
  pub counts : before ≤ after

-- A frame is refused: the recording is unchanged, and nothing was read.
pub record RefusesTold (old new : RecordingSeen) (image : List ℕ) (before after : ℕ)
    (why : ExplainRefused) : Type 0 where
  pub refused : RefusesFrame (over old image) why
  pub unchanged : new ≡ old
  pub unread : after ≡ before

-- A frame is refused after a look, which alone was done.
pub record RefusesLooked (old new : RecordingSeen) (image : List ℕ) (before after : ℕ)
    (why : ExplainRefused) : Type 0 where
  pub refused : RefusesFrame (over old image) why
  pub looked : LooksAt old new image
  pub reads : after ≡ before + count_by not old.marked

-- A save fills a slot with what is kept.
abbrev pub SavesIn : (old new : RecordingSeen) → ℕ → Type 0
SavesIn old new slot = new ≡ record old { slots = slice_set old.slots slot (Some old.kept) }

-- A restore takes up what a slot keeps, and marks each cell.
abbrev pub TakesUp : (old new : RecordingSeen) → ℕ → Type 0
TakesUp old new slot =
    (kept : KeptRows) → slice_index_or old.slots slot None ≡ Some kept
    → new ≡ record old { kept = kept; unlocked = false; marked = replicate (length (trigger_cells old.trigger)) true }
