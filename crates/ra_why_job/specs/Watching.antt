-- A watcher that is led through a trace: docs/DEFINITIONS.md, "Account of an achievement".
use Rattle.std.specs.Prelude.{◌≡◌, ℕ, ◌≤◌, ⊤, Bool, true, false, Option, None, Some, Result, Ok, Err, List, length}
use Rattle.ra_condition.specs.Contents.{TriggerContents}
use Rattle.ra_memory.specs.Image.{History}
use Rattle.ra_trace.specs.declared.error.TraceError.TheVariants as errors
use Rattle.ra_trace.specs.Cutting.{Pieces, Stop, with_entry}
use Rattle.ra_trace.specs.Entries.{Entry}
use Rattle.ra_trace.specs.Reading.{IsStop, ReaderSeen}
use Rattle.ra_meaning.specs.Play.{Moment, moved}
use Rattle.ra_why.specs.Taking.{GoesTo}
use Rattle.ra_why.specs.Watching.{IsWatching, Stands, trigger_in}
use Rattle.ra_why.specs.declared.watcher.Watcher.{Watcher}
use Rattle.ra_replay.specs.Left.{IsLeft, stop_of, trace_limit}
use Rattle.ra_why_job.specs.Says.{frames_to, history_in, trace_in}
use Rattle.ra_why_job.specs.declared.failed.WatchFailed.{WatchFailed}
use Rattle.ra_why_job.specs.declared.failed.WatchFailed.TheVariants as watch
use Rattle.ra_why_job.specs.declared.reply.Reply.{Reply}

-- it watches this trigger over a memory of this size, and its accounts have at most this many frames
pub record Watches (t : TriggerContents) (size most : ℕ) (w : Watcher) : Type 0 where
  pub trigger : trigger_in w ≡ t
  pub long : length w.memory ≡ size
  pub watches : IsWatching most w

-- A reader and a watcher stand before a record: at most a frame for each byte was taken.
pub record IsReady (reader : ReaderSeen) (w : Watcher) : Type 0 where
  pub size : reader.size ≡ Some (length w.memory)
  pub limit : reader.limit ≡ trace_limit
  pub within : reader.next ≤ trace_limit
  pub watches : IsWatching reader.next w

-- the watcher stands for the history that was looked for
pub record IsReached (found : Option History) (w : Watcher) : Type 0 where
  pub history : History
  pub is : found ≡ Some history
  pub stands : Stands w history

-- why a trace is watched no further is why it stops before the history that is looked for, but where memory runs out
-- and
-- where a read failed
abbrev pub IsReason : (found : Option History) → Stop → WatchFailed → Type 0
IsReason found stop watch.Memory = ⊤
IsReason found stop (watch.Trace errors.Read) = ⊤
IsReason found stop (watch.Trace error) = (found ≡ None) × IsStop error (Some stop)

-- One record of those that are left was taken: it was neither the frame of an unlock nor the end.
pub record TakesOn (bytes : List ℕ) (m : Moment) (left : Pieces) (reader : ReaderSeen)
    (old new : Watcher) : Type 0 where
  pub entry : Entry
  pub rest : Pieces
  pub first : left ≡ with_entry entry rest
  pub behind : IsLeft bytes (moved entry m) reader rest
  pub goes : GoesTo old new entry m false

-- what reading and taking the next record does: others come after it, the history is reached, or the trace stops
abbrev pub TakesNext : (bytes : List ℕ) → Moment → Pieces → ReaderSeen → (old new : Watcher)
    → Result Bool WatchFailed → Type 0
TakesNext bytes m left reader old new (Ok true) = TakesOn bytes m left reader old new
TakesNext bytes m left reader old new (Ok false) = IsReached (frames_to (trigger_in old) m left.entries) new
TakesNext bytes m left reader old new (Err failed) =
    IsReason (frames_to (trigger_in old) m left.entries) (stop_of bytes left) failed

-- why watching ends: the history is reached, or the trace stops before
abbrev pub EndsFor : {T : Type 0} → (found : Option History) → Stop → (new : Watcher) → Result T WatchFailed → Type 0
EndsFor found stop new (Ok done) = IsReached found new
EndsFor found stop new (Err failed) = IsReason found stop failed

-- A trace file was watched to the history that was looked for, over a memory of its size.
pub record IsWatchedTo (t : TriggerContents) (bytes : List ℕ) (w : Watcher) : Type 0 where
  pub size : length w.memory ≡ (trace_in bytes).size
  pub reached : IsReached (history_in t bytes) w

-- why a trace file was watched no further
abbrev pub EndsWatch : TriggerContents → (bytes : List ℕ) → Result Watcher WatchFailed → Type 0
EndsWatch t bytes (Ok w) = IsWatchedTo t bytes w
EndsWatch t bytes (Err failed) = IsReason (history_in t bytes) (trace_in bytes).stop failed

-- a reply has this status and this text
abbrev pub IsReply : (status : ℕ) → (text : List ℕ) → Reply → Type 0
IsReply status text r = (r.status ≡ status) × (r.text.items ≡ text)
