-- A recorder that watches a trace, and what a record does to it: docs/DEFINITIONS.md, "Explanations".
use Rattle.std.specs.Prelude.{◌≡◌, ℕ, ⊤, Bool, true, false, nat_le, None, Some, Result, Ok, Err, List, ◌∷◌, length}
use Rattle.std.specs.Prelude.{slice_index_or}
use Rattle.ra_condition.specs.Contents.{TriggerContents}
use Rattle.ra_memory.specs.Image.{History}
use Rattle.ra_trace.specs.declared.error.TraceError.TheVariants as errors
use Rattle.ra_trace.specs.Entries.{Entry, Framed, Ended}
use Rattle.ra_trace.specs.Cutting.{Pieces, stop_within, with_entry}
use Rattle.ra_trace.specs.Reading.{ReaderSeen}
use Rattle.ra_meaning.specs.Play.{Moment, moved}
use Rattle.ra_explain.specs.Recorders.{RecorderSeen, Stands, SlotStands}
use Rattle.ra_replay.specs.Left.{IsEmptySlot, IsLeft, trace_limit}
use Rattle.ra_session.specs.Endings.{ending_of}
use Rattle.ra_session.specs.Expected.{decided_in, trace_in}
use Rattle.ra_session.specs.Explaining.{Reason, AtUnlock, AtRows, AtEnd, AtStop, decided_from}
use Rattle.ra_session.specs.Failures.{ending_of_trace, trace_failed}
use Rattle.ra_session.specs.declared.ending.Ending.{Ending}
use Rattle.ra_explain_job.specs.declared.failed.Untaken.{Untaken}
use Rattle.ra_explain_job.specs.declared.failed.Untaken.TheVariants as untaken
use Rattle.ra_explain_job.specs.declared.failed.WatchFailed.{WatchFailed}
use Rattle.ra_explain_job.specs.declared.failed.WatchFailed.TheVariants as watch
use Rattle.ra_explain_job.specs.declared.taking.Taken.{Taken}
use Rattle.ra_explain_job.specs.declared.taking.Taken.TheVariants.{On, Unlock, End}
use Rattle.ra_explain_job.specs.declared.watch.Watch.{Watch}

-- The recorder has the image of a moment and stands for the frames so far, and so do its slots for those that each has
-- kept.
pub record Follows (r : RecorderSeen) (m : Moment) : Type 0 where
  pub image : r.image ≡ m.image
  pub stands : Stands r m.behind
  pub sixteen : length r.slots ≡ 16
  pub sixteen_too : length m.slots ≡ 16
  pub filled : (slot : ℕ) (kept : History) → slice_index_or m.slots slot None ≡ Some kept → SlotStands r slot kept
  pub empty : (slot : ℕ) → slice_index_or m.slots slot None ≡ None → slice_index_or r.slots slot None ≡ None

-- why a trace is read no further, by what a recorder that follows a moment has taken
abbrev pub reason_at : RecorderSeen → Moment → List Entry → Reason
reason_at r m entries = (decided_from r.trigger m r.frames entries).reason

-- A record decides nothing: the recorder follows the moment after it, and what the records after it decide is decided.
pub record GoesOn (old new : RecorderSeen) (entry : Entry) (m : Moment) : Type 0 where
  pub follows : Follows new (moved entry m)
  pub other : entry ≡ Ended → ⊥
  pub filled : IsEmptySlot entry m → ⊥
  pub decides : (entries : List Entry) → reason_at old m (entry ∷ entries) ≡ reason_at new (moved entry m) entries

-- A record is the frame of the unlock.
pub record UnlocksHere (old new : RecorderSeen) (entry : Entry) (m : Moment) : Type 0 where
  pub framed : entry ≡ Framed
  pub stands : Stands new (m.image ∷ m.behind)
  pub decides : (entries : List Entry) → reason_at old m (entry ∷ entries) ≡ AtUnlock m.image m.behind

-- what a record that is taken does
abbrev pub TakesEntry : (old new : RecorderSeen) → Entry → Moment → Taken → Type 0
TakesEntry old new entry m On = GoesOn old new entry m
TakesEntry old new entry m Unlock = UnlocksHere old new entry m
TakesEntry old new entry m End = entry ≡ Ended

-- A record is the frame whose rows are too many.
pub record PassesRows (old : RecorderSeen) (entry : Entry) (m : Moment) (found : ℕ) : Type 0 where
  pub framed : entry ≡ Framed
  pub decides : (entries : List Entry) → reason_at old m (entry ∷ entries) ≡ AtRows found

-- why a record is not taken
abbrev pub RefusesEntry : RecorderSeen → Entry → Moment → Untaken → Type 0
RefusesEntry old entry m untaken.EmptySlot = IsEmptySlot entry m
RefusesEntry old entry m (untaken.Rows found) = PassesRows old entry m found
RefusesEntry old entry m untaken.Memory = ⊤

-- why a trace is watched no further is why it is decided so, unless memory ran out or a read failed
abbrev pub IsReason : Reason → (stop : Ending) → WatchFailed → Type 0
IsReason reason stop (watch.Rows found) = reason ≡ AtRows found
IsReason reason stop watch.Memory = ⊤
IsReason reason stop (watch.Trace errors.Read) = ⊤
IsReason reason stop (watch.Trace error) = (reason ≡ AtStop) × (stop ≡ ending_of_trace (trace_failed error))

-- how the records that are left of a trace file end it
abbrev pub stop_of : (bytes : List ℕ) → Pieces → Ending
stop_of bytes left = ending_of (stop_within (nat_le trace_limit (length bytes)) left.stop)

-- One record of those that are left was taken, and it decided nothing.
pub record TakesOn (bytes : List ℕ) (m : Moment) (left : Pieces) (reader : ReaderSeen)
    (old new : RecorderSeen) : Type 0 where
  pub entry : Entry
  pub rest : Pieces
  pub first : left ≡ with_entry entry rest
  pub behind : IsLeft bytes (moved entry m) reader rest
  pub goes : GoesOn old new entry m

-- the recorder stands for a history whose last frame is the unlock that decides
pub record StandsAtIt (r : RecorderSeen) (reason : Reason) : Type 0 where
  pub image : List ℕ
  pub earlier : History
  pub stands : Stands r (image ∷ earlier)
  pub is : reason ≡ AtUnlock image earlier

-- what reading and taking the next record does
abbrev pub TakesNext : (bytes : List ℕ) → Moment → Pieces → ReaderSeen → (old new : RecorderSeen)
    → Result Taken WatchFailed → Type 0
TakesNext bytes m left reader old new (Ok On) = TakesOn bytes m left reader old new
TakesNext bytes m left reader old new (Ok Unlock) = StandsAtIt new (reason_at old m left.entries)
TakesNext bytes m left reader old new (Ok End) = reason_at old m left.entries ≡ AtEnd
TakesNext bytes m left reader old new (Err failed) = IsReason (reason_at old m left.entries) (stop_of bytes left) failed

-- why watching ends, where the trace is decided so: at the unlock, at the end record, or no further
abbrev pub EndsFor : Reason → (stop : Ending) → (new : RecorderSeen) → Result Bool WatchFailed → Type 0
EndsFor reason stop new (Ok true) = StandsAtIt new reason
EndsFor reason stop new (Ok false) = reason ≡ AtEnd
EndsFor reason stop new (Err failed) = IsReason reason stop failed

-- the recorder stands at the unlock, where there was one, and else the end record was reached
abbrev pub WatchedTo : Bool → RecorderSeen → Reason → Type 0
WatchedTo true r reason = StandsAtIt r reason
WatchedTo false r reason = reason ≡ AtEnd

-- why a trace file was watched no further
abbrev pub EndsWatch : TriggerContents → (bytes : List ℕ) → Result Watch WatchFailed → Type 0
EndsWatch t bytes (Ok watch) = WatchedTo watch.unlocked watch.recorder (decided_in t bytes).reason
EndsWatch t bytes (Err failed) = IsReason (decided_in t bytes).reason (ending_of (trace_in bytes).stop) failed
