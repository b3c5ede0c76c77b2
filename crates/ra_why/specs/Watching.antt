-- An achievement over a memory with the account of its frames, the histories for which it stands, and what its calls
-- do:
-- docs/DEFINITIONS.md, "Account of an achievement".
use Rattle.std.specs.Prelude.{◌≡◌, ℕ, ◌+◌, ◌*◌, ◌^◌, ◌<◌, ◌≤◌, Bool, true, false, replicate, slice_set, Option, None}
use Rattle.std.specs.Prelude.{Some, List, [], ◌∷◌, ◌++◌, length, slice_index_or}
use Rattle.ra_condition.specs.Contents.{TriggerContents, trigger_contents, trigger_hits}
use Rattle.ra_memory.specs.Image.{History}
use Rattle.ra_memref.specs.Table.{TableSeen}
use Rattle.ra_trigger.specs.Steps.{TriggerKept}
use Rattle.ra_member.specs.Runs.{IsTriggerRun}
use Rattle.ra_member.specs.MemberRuns.{FitWords}
use Rattle.ra_text.specs.Words.{words}
use Rattle.ra_explain.specs.declared.slot.Slot.{Slot}
use Rattle.ra_explain.specs.Making.{IsOver}
use Rattle.ra_explain.specs.Recorders.{StandsFor, rows_behind}
use Rattle.ra_explain.specs.Slots.{counts_of, kept_by, slot_kept}
use Rattle.ra_account.specs.declared.trigger_account.TriggerAccount.{TriggerAccount}
use Rattle.ra_account.specs.Triggers.{IsReady, IsTriggerAccount, TriggerRow}
use Rattle.ra_why.specs.Frames.{frames_of}
use Rattle.ra_member.specs.declared.trigger_run.TriggerRun.{TriggerRun}
use Rattle.ra_member.specs.Readings.{numbers_at}
use Rattle.ra_explain.specs.RowLists.{truths_laid}
use Rattle.ra_account.specs.Groups.{GroupRow}
use Rattle.ra_why.specs.declared.kept.Kept.{Kept}
use Rattle.ra_why.specs.declared.room.Room.{Room}
use Rattle.ra_why.specs.declared.watcher.Watcher.{Watcher}

-- the trigger that is watched
abbrev pub trigger_in : Watcher → TriggerContents
trigger_in w = trigger_contents w.text

-- an account is one of each of these histories of frames for which another is
abbrev pub IsAccountLike : TriggerAccount → TriggerAccount → Type 0
IsAccountLike old copy =
    ((t : TriggerContents) → IsReady t old → IsReady t copy)
    × (((t : TriggerContents) (size : ℕ) (frames : List TriggerRow) → IsTriggerAccount t size frames old
    → IsTriggerAccount t size frames copy)
    × (copy.frames ≡ old.frames))

-- what is kept of a table, an achievement and an account
pub record IsKeptOf (table : TableSeen) (trigger : TriggerKept) (account : TriggerAccount) (kept : Kept) : Type 0 where
  pub state : kept.state ≡ trigger.state
  pub measured : kept.measured ≡ trigger.measured
  pub hits : kept.hits.items ≡ words trigger.hits
  pub numbers : kept.numbers.items ≡ words table.cells ++ words table.priors
  pub hits_fit : FitWords trigger.hits
  pub cells_fit : FitWords table.cells
  pub priors_fit : FitWords table.priors
  pub account_too : IsAccountLike account kept.account

-- the slot of a recorder that has the same of the achievement, at the one place of its rows
abbrev pub slot_in : Kept → Slot
slot_in kept = record
    { state = kept.state; measured = kept.measured; hits = kept.hits; numbers = kept.numbers; latest = 0 }

-- an account that is ready to go on, of at most this many frames
pub record GoesOn (t : TriggerContents) (most : ℕ) (a : TriggerAccount) : Type 0 where
  pub ready : IsReady t a
  pub few : a.frames ≤ most

-- what is kept of a table and an achievement is that after some history
pub record IsSomewhere (t : TriggerContents) (table : TableSeen) (trigger : TriggerKept) : Type 0 where
  pub history : History
  pub stands : StandsFor t (kept_by table trigger (rows_behind t history)) history

-- so is what a slot keeps of them
pub record IsSlotSomewhere (t : TriggerContents) (kept : Kept) : Type 0 where
  pub history : History
  pub stands : StandsFor t (slot_kept (counts_of t) (rows_behind t history ∷ []) (slot_in kept)) history

-- what a slot keeps can be taken up
pub record MayTakeUp (t : TriggerContents) (most : ℕ) (kept : Kept) : Type 0 where
  pub hits : length kept.hits.items ≡ 4 * trigger_hits t
  pub numbers : length kept.numbers.items ≡ 4 * ((counts_of t).cells + (counts_of t).priors)
  pub account : GoesOn t most kept.account
  pub somewhere : IsSlotSomewhere t kept

-- so can what a slot keeps that is not empty
abbrev pub MayTakeUpSlot : TriggerContents → (most : ℕ) → Option Kept → Type 0
MayTakeUpSlot t most None = Unit {0}
MayTakeUpSlot t most (Some kept) = MayTakeUp t most kept

-- room for this many conditions
pub record IsRoom (count : ℕ) (r : Room) : Type 0 where
  pub truths : length r.truths.items ≡ count
  pub lefts : length r.lefts.items ≡ count
  pub rights : length r.rights.items ≡ count
  pub hits : length r.hits.items ≡ count

-- the row that is read
abbrev pub row_of : Room → GroupRow
row_of r = record { truths = r.truths.items; lefts = r.lefts.items; rights = r.rights.items; hits = r.hits.items }

-- the row of a trigger, as the values of a table and its hits give it
abbrev pub row_read : (values : List ℕ) → TriggerRun → GroupRow
row_read values run = record {
  truths = truths_laid values run.laid;
  lefts = numbers_at values run.laid.plan.lefts;
  rights = numbers_at values run.laid.plan.rights;
  hits = run.trigger.hits;
}

-- an account before the first frame
pub record IsFirst (t : TriggerContents) (a : TriggerAccount) : Type 0 where
  pub ready : IsReady t a
  pub none : a.frames ≡ 0
  pub begun : (size : ℕ) → IsTriggerAccount t size [] a

-- it is laid out for its trigger, and its accounts have at most this many frames
pub record IsWatching (most : ℕ) (w : Watcher) : Type 0 where
  pub few : trigger_hits (trigger_in w) ≤ 65536
  pub over : IsOver (trigger_in w) w.table
  pub run_too : IsTriggerRun w.table.nodes (trigger_in w) w.run
  pub size : w.table.size ≡ length w.memory
  pub somewhere : IsSomewhere (trigger_in w) w.table w.run.trigger
  pub account : GoesOn (trigger_in w) most w.account
  pub room : IsRoom (trigger_hits (trigger_in w)) w.room
  pub sixteen : length w.slots.items ≡ 16
  pub slots : (k : ℕ) → MayTakeUpSlot (trigger_in w) most (slice_index_or w.slots.items k None)

-- it is ready, and its accounts have fewer than 2^60 frames
pub record MayStep (w : Watcher) : Type 0 where
  pub most : ℕ
  pub few : most < 2 ^ 60
  pub watches : IsWatching most w

-- what is kept of an achievement over images of this size, with an account, is that after a history
pub record StandsWith (t : TriggerContents) (size : ℕ) (table : TableSeen) (trigger : TriggerKept)
    (account : TriggerAccount) (history : History) : Type 0 where
  pub kept : StandsFor t (kept_by table trigger (rows_behind t history)) history
  pub account_too : IsTriggerAccount t size (frames_of t history) account

-- the watcher stands for the history
abbrev pub Stands : Watcher → History → Type 0
Stands w history = StandsWith (trigger_in w) (length w.memory) w.table w.run.trigger w.account history

-- what a slot keeps is that after a history
pub record SlotStands (t : TriggerContents) (size : ℕ) (kept : Kept) (history : History) : Type 0 where
  pub kept_too : StandsFor t (slot_kept (counts_of t) (rows_behind t history ∷ []) (slot_in kept)) history
  pub account_too : IsTriggerAccount t size (frames_of t history) kept.account

-- the slot is filled and keeps what is after a history, or both are empty
abbrev pub SlotMeets : TriggerContents → (size : ℕ) → Option Kept → Option History → Type 0
SlotMeets t size None None = Unit {0}
SlotMeets t size (Some kept) (Some history) = SlotStands t size kept history
SlotMeets t size _ _ = ⊥

-- Before the first frame: an image of zeros, and no slot is filled.
pub record IsMade (t : TriggerContents) (size : ℕ) (w : Watcher) : Type 0 where
  pub trigger : trigger_in w ≡ t
  pub memory : w.memory ≡ replicate size 0
  pub slots : w.slots.items ≡ replicate 16 None

-- the trigger, the image and the slots stay
pub record StaysOut (old new : Watcher) : Type 0 where
  pub text : new.text ≡ old.text
  pub memory : new.memory ≡ old.memory
  pub slots : new.slots ≡ old.slots

-- A save fills a slot with what is kept, and changes nothing else.
pub record Saves (old new : Watcher) (slot : ℕ) : Type 0 where
  pub kept : Kept
  pub is : IsKeptOf old.table old.run.trigger old.account kept
  pub rest : new ≡ record old { slots = new.slots }
  pub slots : new.slots.items ≡ slice_set old.slots.items slot (Some kept)

-- A restore takes up what the slot keeps, for each history for which it stands; or the slot is empty.
abbrev pub TakesUp : (old new : Watcher) → (slot : ℕ) → (filled : Bool) → Type 0
TakesUp old new slot true =
    (kept : Kept) × ((slice_index_or old.slots.items slot None ≡ Some kept)
    × ((history : History) → SlotStands (trigger_in old) (length old.memory) kept history → Stands new history))
TakesUp old new slot false = (slice_index_or old.slots.items slot None ≡ None) × (new ≡ old)
