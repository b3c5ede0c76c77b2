-- What `why` says of an achievement over a trace: docs/DEFINITIONS.md, "Jobs for authors" and "Account of an
-- achievement".
use Rattle.std.specs.Prelude.{◌≡◌, ℕ, ◌+◌, ◌==◌, ◌||◌, Bool, if◌then◌else◌, Option, None, Some, List, [], ◌∷◌, ◌++◌}
use Rattle.std.specs.Prelude.{take, codes, decimal}
use Rattle.ra_condition.specs.Contents.{TriggerContents}
use Rattle.ra_memory.specs.Image.{History}
use Rattle.ra_set.specs.Accepted.{IsSet}
use Rattle.ra_set.specs.Contents.{SetContents}
use Rattle.ra_set.specs.Limits.{most_bytes}
use Rattle.ra_set.specs.Refusals.{Refuses}
use Rattle.ra_set.specs.Words.{set_words}
use Rattle.ra_set.specs.declared.refused.SetRefused.{SetRefused}
use Rattle.ra_trace.specs.Cutting.{RefusedAt, PastLimit, Trace, no_slots, trace_within}
use Rattle.ra_trace.specs.Entries.{Entry, Ended}
use Rattle.ra_trace.specs.Refusals.{trace_word}
use Rattle.ra_trace.specs.declared.error.Why.{Why}
use Rattle.ra_meaning.specs.Play.{Moment, first_moment, moved}
use Rattle.ra_goals.specs.Choosing.{trigger_of}
use Rattle.ra_replay.specs.Left.{trace_limit}
use Rattle.ra_why.specs.Taking.{is_unlock}
use Rattle.ra_why.specs.Text.{why_text}

-- the trace that is seen in a file
abbrev pub trace_in : List ℕ → Trace
trace_in bytes = trace_within trace_limit no_slots bytes

-- the frames that lie behind the first unlock, or else after the end record, of records from a moment on; none where
-- the records stop before
abbrev pub frames_to : TriggerContents → Moment → List Entry → Option History
frames_to t m [] = None
frames_to t m (Ended ∷ entries) = Some m.behind
frames_to t m (entry ∷ entries) =
    if is_unlock t entry m then Some (moved entry m).behind else frames_to t (moved entry m) entries

-- the same of a trace file, from the plain opening on
abbrev pub history_in : TriggerContents → List ℕ → Option History
history_in t bytes = frames_to t (first_moment (trace_in bytes).size []) (trace_in bytes).entries

-- the line of a set that is refused
abbrev pub set_line : SetRefused → List ℕ
set_line why = codes "set refused: " ++ set_words why ++ codes "\n"

-- the line where a set has no achievement of an id
abbrev pub lacks_line : (id : ℕ) → List ℕ
lacks_line id = codes "why refused: no achievement " ++ decimal id ++ codes "\n"

-- the line of a trace that is refused
abbrev pub refused_line : (at : ℕ) → Why → List ℕ
refused_line at why = codes "trace refused at " ++ decimal at ++ codes ": " ++ trace_word why ++ codes "\n"

-- the line of a trace that is too long
abbrev pub long_line : List ℕ
long_line = codes "trace too long\n"

-- What is said of an achievement over a trace file, as status and text: the account of the frames up to its first
-- unlock
-- or to the end record; or why the trace stops before.
pub data TraceSays (id : ℕ) (t : TriggerContents) (bytes : List ℕ) : (status : ℕ) → (text : List ℕ) → Type 0 where
  accounts : (history : History) → history_in t bytes ≡ Some history
      → TraceSays id t bytes 0 (why_text id t (trace_in bytes).size history)
  refuses_trace : (at : ℕ) (why : Why) → history_in t bytes ≡ None → (trace_in bytes).stop ≡ RefusedAt at why
      → TraceSays id t bytes 7 (refused_line at why)
  passes_limit : history_in t bytes ≡ None → (trace_in bytes).stop ≡ PastLimit → TraceSays id t bytes 8 long_line

-- What `why` of these files says, as status and text, where the bytes that decide it are told: those of SET, of which
-- at
-- most a byte more than a set may have is read, and those of TRACE where the set has the achievement.
pub data WhySays (content : List ℕ → Option (List ℕ)) (set trace : List ℕ) (id : ℕ) : (status : ℕ)
    → (text : List ℕ) → Type 0 where
  refuses_set : (file : List ℕ) (why : SetRefused) → content set ≡ Some file → Refuses (take (most_bytes + 1) file) why
      → WhySays content set trace id 3 (set_line why)
  lacks : (file : List ℕ) (s : SetContents) → content set ≡ Some file → IsSet file s → trigger_of id s.items ≡ None
      → WhySays content set trace id 12 (lacks_line id)
  tells : (file bytes : List ℕ) (s : SetContents) (t : TriggerContents) (status : ℕ) (text : List ℕ)
      → content set ≡ Some file
      → content trace ≡ Some bytes → IsSet file s → trigger_of id s.items ≡ Some t → TraceSays id t bytes status text
      → WhySays content set trace id status text

-- whether a status is one of an achievement over a trace
abbrev pub is_traced : ℕ → Bool
is_traced status = status == 0 || (status == 7 || status == 8)

-- whether a status is one that `why` gives by itself
abbrev pub is_own : ℕ → Bool
is_own status = is_traced status || (status == 3 || status == 12)

-- the files that decide a status: SET alone where it is refused or has no such achievement, and else both
abbrev pub decided_by : (set trace : List ℕ) → (status : ℕ) → List (List ℕ)
decided_by set trace status = if status == 3 || status == 12 then set ∷ [] else set ∷ trace ∷ []

-- SET is a set with an achievement of the id, and TRACE is within its format up to the first unlock of it, or to its
-- end
-- record.
pub record IsWatched (file bytes : List ℕ) (id : ℕ) : Type 0 where
  pub set : SetContents
  pub is_set : IsSet file set
  pub trigger : TriggerContents
  pub found : trigger_of id set.items ≡ Some trigger
  pub history : History
  pub reached : history_in trigger bytes ≡ Some history
