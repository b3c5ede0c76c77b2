-- What a job prints, how it ends and what it saves, where nothing fails: docs/DEFINITIONS.md, "A run".
use Rattle.std.specs.Prelude.{◌≡◌, ℕ, ◌+◌, ◌<◌, ◌≤◌, ◌==◌, Bool, true, false, if◌then◌else◌, Option, None, Some, List}
use Rattle.std.specs.Prelude.{[], ◌∷◌, ◌++◌, length, take, replicate, codes, decimal, count_by, bytes_eq}
use Rattle.std.specs.List.{join_with_byte, slice_split, concat}
use Rattle.md5.specs.Md5.{md5}
use Rattle.ra_set.specs.declared.refused.SetRefused.{SetRefused}
use Rattle.ra_set.specs.Contents.{SetContents}
use Rattle.ra_set.specs.Limits.{most_bytes, set_conditions}
use Rattle.ra_memory.specs.Image.{History, AreImages}
use Rattle.ra_progress.specs.Contents.{Opening, IsOpening}
use Rattle.ra_progress.specs.Spelling.{progress_bytes}
use Rattle.ra_progress.specs.Reading.{refusal}
use Rattle.ra_progress.specs.Saying.{says}
use Rattle.ra_progress.specs.Refusals.{hex}
use Rattle.ra_trace.specs.Cutting.{Trace, no_slots, trace_within}
use Rattle.ra_trace.specs.Workload.{made_set, made_trace}
use Rattle.ra_meaning.specs.Order.{set_cells, set_tracked, shape_of}
use Rattle.ra_meaning.specs.Earned.{Earned, HoldTriggered, earned_in, none_earned, with_earned}
use Rattle.ra_meaning.specs.Openings.{snapshot, plain_opening}
use Rattle.ra_meaning.specs.Play.{first_moment, pieces_from, saved_end}
use Rattle.ra_progress.specs.declared.refused.ProgressRefused.{ProgressRefused}
use Rattle.ra_set.specs.Accepted.{IsSet}
use Rattle.ra_set.specs.Refusals.{Refuses}
use Rattle.ra_patch.specs.declared.refused.PatchRefused.{PatchRefused}
use Rattle.ra_patch.specs.declared.refused.PatchRefused.TheVariants as patch
use Rattle.ra_patch.specs.Answers.{document_limit, Imports, RefusesDocument}
use Rattle.ra_normal.specs.Text.{IsNormal, IsPastLimit, normal_conditions}
use Rattle.ra_normal.specs.declared.refused.NormalRefused.TheVariants as normal
use Rattle.ra_set.specs.declared.refused.Which.{Which}
use Rattle.ra_jobs.specs.Counting.{achievements_in, boards_in, scripts_in}
use Rattle.ra_args.specs.Words.{Job, Run, Check, Make, Import, Lint, Normal, Explain}
use Rattle.ra_condition.specs.Contents.{TriggerContents}
use Rattle.ra_explain.specs.Explains.{ExplanationContents}
use Rattle.ra_explain.specs.Unlocks.{IsExplanation}
use Rattle.ra_replay.specs.Left.{trace_limit}
use Rattle.ra_session.specs.Endings.{ending_of}
use Rattle.ra_goals.specs.Choosing.{trigger_of}
use Rattle.ra_session.specs.Explaining.{Decided, Reason, AtUnlock, AtRows, AtEnd, AtStop, decided_from}
use Rattle.ra_session.specs.Explaining.{explanation_text, no_unlock_text}
use Rattle.ra_session.specs.Linting.{lint_text}
use Rattle.ra_session.specs.declared.ending.Ending.{Ending}
use Rattle.ra_session.specs.declared.ending.Ending.TheVariants.{Done, BadSet, BadProgress, BadDocument, LongNormal}
use Rattle.ra_session.specs.declared.ending.Ending.TheVariants.{NoAchievement, ManyRows}

-- what a job says where nothing fails
pub record Expected : Type 0 where
  -- what each record prints, in order
  pub pieces : List (List ℕ)
  pub ending : Ending
  -- the file that it puts: the progress at the end record, or a set
  pub saved : List ℕ
  -- the file is put before anything is printed
  pub puts_first : Bool

-- After this many records a read may come: there are as many, and the end record, after which nothing is read, is not
-- among them.
pub record IsReadBehind (e : Expected) (records : ℕ) : Type 0 where
  pub there : records ≤ length e.pieces
  pub before_end : e.ending ≡ Done → records < length e.pieces

-- what is printed before the put
abbrev pub before_put : Expected → List (List ℕ)
before_put e = if e.puts_first then [] else e.pieces

-- a job that ends before it prints
abbrev pub prints_nothing : Ending → Expected
prints_nothing ending = record { pieces = []; ending = ending; saved = []; puts_first = false }

-- a job whose line is all that it prints
abbrev pub prints_line : List ℕ → Expected
prints_line line = record { pieces = line ∷ []; ending = Done; saved = []; puts_first = false }

-- a job that puts a file, and prints a line after it
abbrev pub puts_then_prints : (file line : List ℕ) → Expected
puts_then_prints file line = record { pieces = line ∷ []; ending = Done; saved = file; puts_first = true }

-- the most bytes of a set
abbrev pub set_limit : ℕ
set_limit = most_bytes

-- the most bytes that are read of a progress file: a byte more than one may have
abbrev pub progress_limit : ℕ
progress_limit = 8388609

-- the trace that a run sees in a file
abbrev pub trace_in : List ℕ → Trace
trace_in bytes = trace_within trace_limit no_slots bytes

-- a run of a set over a trace file, where an opening and some frames lie before the first record and this is earned
abbrev pub played : SetContents → Opening → History → Earned → List ℕ → Expected
played set o behind earned bytes =
    let trace = trace_within trace_limit no_slots bytes in
    record {
      pieces = pieces_from set o (first_moment trace.size behind) earned trace.entries;
      ending = ending_of trace.stop;
      saved = progress_bytes (shape_of set) (saved_end set o behind earned trace.size trace.entries);
      puts_first = false;
    }

-- What a run of these files says, where their bytes are told: it begins with the plain opening and nothing earned, or
-- goes on from a progress file: for every opening, history and earned achievements whose bytes the file is, and from
-- what an accepted file of any version and of any set says.
pub data RunSays (content : List ℕ → Option (List ℕ)) (set trace : List ℕ) : Option (List ℕ) → Expected → Type 0 where
  refuses_set : {restore : Option (List ℕ)} (file : List ℕ) (why : SetRefused) → content set ≡ Some file
      → Refuses (take (set_limit + 1) file) why → RunSays content set trace restore (prints_nothing (BadSet why))
  refuses_file : (name set_file file : List ℕ) (s : SetContents) (why : ProgressRefused)
      → content set ≡ Some set_file → content name ≡ Some file
      → IsSet set_file s → refusal (shape_of s) (take progress_limit file) ≡ Some why
      → RunSays content set trace (Some name) (prints_nothing (BadProgress why))
  begins : (set_file trace_file : List ℕ) (s : SetContents) → content set ≡ Some set_file
      → content trace ≡ Some trace_file
      → IsSet set_file s → RunSays content set trace None (played s (plain_opening s) [] (none_earned s) trace_file)
  goes_on : (name set_file trace_file : List ℕ) (s : SetContents) (o : Opening) (behind : History)
      (earned : Earned) → content set ≡ Some set_file → content trace ≡ Some trace_file
      → content name ≡ Some (progress_bytes (shape_of s) (with_earned (snapshot s o behind) earned))
      → IsSet set_file s → IsOpening (shape_of s) o → AreImages behind
      → HoldTriggered earned (snapshot s o behind).items
      → RunSays content set trace (Some name) (played s o behind earned trace_file)
  takes_up : (name set_file file trace_file : List ℕ) (s : SetContents) → content set
      ≡ Some set_file → content trace ≡ Some trace_file → content name ≡ Some file
      → IsSet set_file s → refusal (shape_of s) file ≡ None → RunSays content set trace (Some name)
      (played s (says (shape_of s) file) [] (earned_in (says (shape_of s) file)) trace_file)

-- the line of `check`
abbrev pub check_line : SetContents → List ℕ
check_line set =
    join_with_byte 32 (codes "achievements" ∷ decimal (achievements_in set.items)
    ∷ codes "leaderboards" ∷ decimal (boards_in set.items)
    ∷ codes "conditions" ∷ decimal (set_conditions set) ∷ codes "cells" ∷ decimal (length (set_cells set))
    ∷ codes "priors" ∷ decimal (length (set_tracked set)) ∷ codes "md5" ∷ hex set.digest ∷ []) ++ 10 ∷ []

-- What a job says that prints a text of the set of this file, where its bytes are told.
pub data SetSays (text : SetContents → List ℕ) (content : List ℕ → Option (List ℕ))
    (set : List ℕ) : Expected → Type 0 where
  refuses_set : (file : List ℕ) (why : SetRefused) → content set ≡ Some file → Refuses
      (take (set_limit + 1) file) why → SetSays text content set (prints_nothing (BadSet why))
  tells : (file : List ℕ) (s : SetContents) → content set ≡ Some file → IsSet file s
      → SetSays text content set (prints_line (text s))

-- a line of an unlock
abbrev pub is_unlock : List ℕ → Bool
is_unlock line = bytes_eq (take 7 line) (codes "unlock ")

-- the line of `make`: the lines of a text, those of unlocks, and its digest
abbrev pub make_line : ℕ → List ℕ → List ℕ
make_line number text =
    join_with_byte 32 (codes "made" ∷ decimal number ∷ codes "lines" ∷ decimal (count_by (λ c. c == 10) text)
    ∷ codes "unlocks" ∷ decimal (count_by is_unlock (slice_split (λ c. c == 10) text))
    ∷ codes "md5" ∷ hex (md5 text) ∷ []) ++ 10 ∷ []

-- What `make` of a number says.
pub data MakeSays (number : ℕ) : Expected → Type 0 where
  made : (s : SetContents) → IsSet (made_set number) s → MakeSays number (prints_line (make_line
      number (concat (played s (plain_opening s) [] (none_earned s) (made_trace number)).pieces)))

-- the line of `import`
abbrev pub import_line : SetContents → List ℕ
import_line set =
    join_with_byte 32 (codes "imported" ∷ codes "achievements" ∷ decimal (achievements_in set.items)
    ∷ codes "leaderboards" ∷ decimal (boards_in set.items) ∷ codes "presence"
    ∷ decimal (scripts_in set.script) ∷ []) ++ 10 ∷ []

-- a document is refused, and not because its set file is
abbrev pub IsOfDocument : PatchRefused → Type 0
IsOfDocument (patch.Set why) = ⊥
IsOfDocument patch.Memory = ⊥
IsOfDocument _ = Unit {0}

-- What `import` of this document says, where its bytes are told: at most a byte more than a document may have is read.
pub data ImportSays (content : List ℕ → Option (List ℕ)) (file : List ℕ) : Expected → Type 0 where
  refuses_document : (bytes : List ℕ) (why : PatchRefused) → content file ≡ Some bytes → IsOfDocument why
      → RefusesDocument (take (document_limit + 1) bytes) why
      → ImportSays content file (prints_nothing (BadDocument why))
  refuses_set : (bytes : List ℕ) (why : SetRefused) → content file ≡ Some bytes
      → RefusesDocument (take (document_limit + 1) bytes) (patch.Set why)
      → ImportSays content file (prints_nothing (BadSet why))
  imports : (bytes text : List ℕ) (s : SetContents) → content file ≡ Some bytes → Imports bytes text → IsSet text s
      → ImportSays content file (puts_then_prints text (import_line s))

-- the line of `normal`, of a set whose normal text has this many bytes
abbrev pub normal_line : SetContents → (bytes : ℕ) → List ℕ
normal_line set bytes =
    join_with_byte 32 (codes "normal" ∷ codes "bytes" ∷ decimal bytes ∷ codes "conditions"
    ∷ decimal (normal_conditions set) ∷ []) ++ 10 ∷ []

-- What `normal` of the set of this file says, where its bytes are told.
pub data NormalSays (content : List ℕ → Option (List ℕ)) (set : List ℕ) : Expected → Type 0 where
  refuses_set : (file : List ℕ) (why : SetRefused) → content set ≡ Some file → Refuses
      (take (set_limit + 1) file) why → NormalSays content set (prints_nothing (BadSet why))
  passes_limit : (file : List ℕ) (s : SetContents) (which : Which) (found : ℕ) → content set
      ≡ Some file → IsSet file s → IsPastLimit file s (normal.Limit which found)
      → NormalSays content set (prints_nothing (LongNormal which found))
  puts_text : (file : List ℕ) (s : SetContents) (text : List ℕ) → content set ≡ Some file
      → IsSet file s → IsNormal file s text
      → NormalSays content set (puts_then_prints text (normal_line s (length text)))

-- a job that prints nothing at this many records, and then this
abbrev pub prints_behind : (records : ℕ) → List (List ℕ) → Ending → Expected
prints_behind records pieces ending = record
    { pieces = replicate records [] ++ pieces; ending = ending; saved = []; puts_first = false }

-- What is said of an achievement of this id and trigger where the trace is read no further: why its unlock came, that
-- its
-- rows are too many, that no unlock came, or how the trace ends.
pub data ReasonSays (id : ℕ) (t : TriggerContents) (stop : Ending) (records : ℕ) : Reason → Expected → Type 0 where
  at_unlock : (image : List ℕ) (earlier : History) (e : ExplanationContents) → IsExplanation t image earlier e
      → ReasonSays id t stop records (AtUnlock image earlier)
      (prints_behind records (explanation_text id t e ∷ []) Done)
  at_rows : (found : ℕ) → ReasonSays id t stop records (AtRows found) (prints_behind records [] (ManyRows found))
  at_end : ReasonSays id t stop records AtEnd (prints_behind records (no_unlock_text id ∷ []) Done)
  at_stop : ReasonSays id t stop records AtStop (prints_behind records [] stop)

-- what decides an achievement of this trigger over a trace file, from the plain opening on
abbrev pub decided_in : TriggerContents → List ℕ → Decided
decided_in t bytes = decided_from t (first_moment (trace_in bytes).size []) 0 (trace_in bytes).entries

-- what is said of an achievement over a trace file
abbrev pub TraceSays : (id : ℕ) → TriggerContents → List ℕ → Expected → Type 0
TraceSays id t bytes e =
    ReasonSays id t (ending_of (trace_in bytes).stop) (decided_in t bytes).records (decided_in t bytes).reason e

-- What `explain` of these files says, where their bytes are told.
pub data ExplainSays (content : List ℕ → Option (List ℕ)) (set trace : List ℕ) (id : ℕ) : Expected → Type 0 where
  refuses_set : (file : List ℕ) (why : SetRefused) → content set ≡ Some file → Refuses (take (set_limit + 1) file) why
      → ExplainSays content set trace id (prints_nothing (BadSet why))
  lacks : (file : List ℕ) (s : SetContents) → content set ≡ Some file → IsSet file s → trigger_of id s.items ≡ None
      → ExplainSays content set trace id (prints_nothing (NoAchievement id))
  explains : (file trace_file : List ℕ) (s : SetContents) (t : TriggerContents) (e : Expected)
      → content set ≡ Some file → content trace ≡ Some trace_file
      → IsSet file s → trigger_of id s.items ≡ Some t → TraceSays id t trace_file e → ExplainSays content set trace id e

-- what a job says over files whose bytes are told
abbrev pub JobSays : (content : List ℕ → Option (List ℕ)) → Job → Expected → Type 0
JobSays content (Run set trace restore save) e = RunSays content set trace restore e
JobSays content (Check set) e = SetSays check_line content set e
JobSays content (Make number) e = MakeSays number e
JobSays content (Import file set) e = ImportSays content file e
JobSays content (Lint set) e = SetSays lint_text content set e
JobSays content (Normal set out) e = NormalSays content set e
JobSays content (Explain set trace id) e = ExplainSays content set trace id e
