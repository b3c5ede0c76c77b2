-- A watcher that takes the records of a trace: docs/DEFINITIONS.md, "Account of an achievement" and "Frames that lie
-- behind".
use Rattle.std.specs.Prelude.{◌≡◌, ℕ, Bool, true, false, None, length, slice_index_or}
use Rattle.ra_condition.specs.Contents.{TriggerContents}
use Rattle.ra_trace.specs.Entries.{Entry, Framed, Ended}
use Rattle.ra_meaning.specs.Play.{Moment, moved}
use Rattle.ra_explain.specs.Recorders.{unlocks_at}
use Rattle.ra_replay.specs.Left.{IsEmptySlot}
use Rattle.ra_why.specs.Watching.{SlotMeets, Stands, trigger_in}
use Rattle.ra_why.specs.declared.taking.Taken.{Taken}
use Rattle.ra_why.specs.declared.taking.Taken.TheVariants.{On, Unlock, Empty, End}
use Rattle.ra_why.specs.declared.watcher.Watcher.{Watcher}

-- The watcher has the image of a moment and stands for the frames so far, and each slot for those that it has kept.
pub record Follows (w : Watcher) (m : Moment) : Type 0 where
  pub image : w.memory ≡ m.image
  pub stands : Stands w m.behind
  pub sixteen : length m.slots ≡ 16
  pub slots : (k : ℕ) → SlotMeets (trigger_in w) (length w.memory) (slice_index_or w.slots.items k None)
      (slice_index_or m.slots k None)

-- the record is the frame of an unlock
abbrev pub is_unlock : TriggerContents → Entry → Moment → Bool
is_unlock t Framed m = unlocks_at t m.image m.behind
is_unlock t _ m = false

-- A record is taken that is not the end: the watcher follows the moment after it.
pub record GoesTo (old new : Watcher) (entry : Entry) (m : Moment) (unlock : Bool) : Type 0 where
  pub follows : Follows new (moved entry m)
  pub unlocks : is_unlock (trigger_in old) entry m ≡ unlock
  pub other : entry ≡ Ended → ⊥
  pub filled : IsEmptySlot entry m → ⊥

-- what a record that is taken did; the end record changes nothing
abbrev pub TakesRecord : (old new : Watcher) → Entry → Moment → Taken → Type 0
TakesRecord old new entry m On = GoesTo old new entry m false
TakesRecord old new entry m Unlock = GoesTo old new entry m true
TakesRecord old new entry m Empty = IsEmptySlot entry m
TakesRecord old new entry m End = (entry ≡ Ended) × (new ≡ old)
