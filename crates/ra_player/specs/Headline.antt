-- What a call of `play` leaves, by its status: docs/DEFINITIONS.md, "What each status says".
use Rattle.std.specs.Prelude.{◌≡◌, ℕ, List, ◌++◌, take}
use Rattle.std.specs.List.{concat}
use Rattle.ra_args.specs.Words.{Job, puts_of}
use Rattle.ra_session.specs.Endings.{status_of, last_line}
use Rattle.ra_session.specs.Expected.{Expected, IsReadBehind, before_put, prints_nothing}
use Rattle.ra_session.specs.Running.{trace_of}
use Rattle.ra_jobs.specs.Outside.{Outside, GrewBy, ReadsRose, PutsRose, SinkRose}
use Rattle.ra_session.specs.declared.ending.Ending.{Ending}
use Rattle.ra_session.specs.declared.ending.Ending.TheVariants.{Done, NoJob, ReadFault, SaveFault}

-- the text so far is the front of a whole
abbrev pub IsFront : List ℕ → List ℕ → Type 0
IsFront part whole = (rest : List ℕ) × (part ++ rest ≡ whole)

-- What decided: how the job ends, and all that is then to be printed.
pub data Decides (e : Expected) (reads trace puts : Type 0) : Ending → List ℕ → Type 0 where
  as_expected : Decides e reads trace puts e.ending (concat e.pieces ++ last_line e.ending)
  save_failed : puts → e.ending ≡ Done
      → Decides e reads trace puts SaveFault (concat (before_put e) ++ last_line SaveFault)
  -- of a file that decides, before the first record
  read_failed : reads → IsReadBehind e 0 → Decides e reads trace puts ReadFault (last_line ReadFault)
  -- of the trace, after some record but the end record, or before the first
  trace_failed : reads → trace → (records : ℕ) → IsReadBehind e records
      → Decides e reads trace puts ReadFault (concat (take records e.pieces) ++ last_line ReadFault)

-- How a call of `play` may end, where a job is expected to say this: its status, and how the text grew.
pub data Ends (e : Expected) (reads trace puts sink : Type 0) : ℕ → List ℕ → Type 0 where
  whole : {ending : Ending} {text : List ℕ} → Decides e reads trace puts ending text
      → Ends e reads trace puts sink (status_of ending) text
  sink_failed : {text : List ℕ} → sink → (ending : Ending) (all : List ℕ) → Decides e reads trace
      puts ending all → IsFront text all → Ends e reads trace puts sink 5 text
  no_memory : {text : List ℕ} → (ending : Ending) (all : List ℕ) → Decides e reads trace puts ending
      all → IsFront text all → Ends e reads trace puts sink 1 text

-- A job over told files says this: its text is that of one of its endings. A read decides where it is one of these
-- files,
-- and one after a record is of the trace.
abbrev pub PlaysAs : (deciding : Ending → Job → List (List ℕ)) → Job → Expected → Outside → Outside → ℕ → Type 0
PlaysAs deciding job e old new status =
    (more : List ℕ) × GrewBy old new more
    × Ends e (ReadsRose (deciding e.ending job) old new) (ReadsRose (trace_of job) old new)
    (PutsRose (puts_of job) old new) (SinkRose old new) status more

-- The words are no job: the text is the usage line, or a front of it.
abbrev pub RefusesWords : Outside → Outside → ℕ → Type 0
RefusesWords old new status =
    (more : List ℕ) × GrewBy old new more × Ends (prints_nothing NoJob) ⊥ ⊥ ⊥ (SinkRose old new) status more
