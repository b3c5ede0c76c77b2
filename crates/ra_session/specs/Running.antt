-- What a job has done before its last line: docs/DEFINITIONS.md, "What each status says".
use Rattle.std.specs.Prelude.{◌≡◌, ◌≢◌, ◌⊎◌, ⊤, ℕ, Option, Some, List, [], ◌∷◌, is_some, true}
use Rattle.std.specs.List.{AllByRecursion}
use Rattle.ra_io.specs.Files.{SameContent}
use Rattle.ra_args.specs.Words.{Job, Run, Explain, Import, Normal, reads_of, puts_of, set_read, first_reads}
use Rattle.ra_session.specs.Expected.{Expected, JobSays}
use Rattle.ra_session.specs.Closing.{EndsJob}
use Rattle.ra_jobs.specs.Outside.{Outside, ReadsRose, PutsRose, SinkRose, AreTold}
use Rattle.ra_session.specs.declared.ending.Ending.{Ending}
use Rattle.ra_session.specs.declared.ending.Ending.TheVariants.{Done, NoMemory, NoJob, BadSet, ReadFault, SinkFault}
use Rattle.ra_session.specs.declared.ending.Ending.TheVariants.{BadProgress, SaveFault, NoAchievement}

-- the ending is told by the files, and by no fault
abbrev pub IsTold : Ending → Type 0
IsTold NoMemory = ⊥
IsTold NoJob = ⊥
IsTold ReadFault = ⊥
IsTold SinkFault = ⊥
IsTold SaveFault = ⊥
IsTold _ = Unit {0}

-- the files that decide an ending: what is read of them, and no other, tells that the job ends so
abbrev pub deciding : Ending → Job → List (List ℕ)
deciding (BadSet why) job = set_read job
deciding (BadProgress why) job = first_reads job
deciding (NoAchievement id) job = set_read job
deciding _ job = reads_of job

-- the trace that a job reads record by record
abbrev pub trace_of : Job → List (List ℕ)
trace_of (Run set trace restore save) = trace ∷ []
trace_of (Explain set trace id) = trace ∷ []
trace_of _ = []

module _ (job : Job) (old new : Outside) where
  -- what was counted where a fault ended the job; no job ends as words that are none do
  abbrev pub IsCounted : Ending → Type 0
  IsCounted ReadFault = ReadsRose (reads_of job) old new
  IsCounted SinkFault = SinkRose old new
  IsCounted SaveFault = PutsRose (puts_of job) old new
  IsCounted NoJob = ⊥
  IsCounted _ = ⊤

  -- what is printed up to the last line of a job that ended so and is expected to say this
  abbrev pub PrintsSoFar : Ending → Expected → Type 0
  PrintsSoFar ending e =
      EndsJob e (ReadsRose (deciding e.ending job) old new) (ReadsRose (trace_of job) old new)
      (PutsRose (puts_of job) old new) (SinkRose old new)
      ending old.text new.text

  -- A job ended so: what was printed is what the told files say, and a fault that ended it was counted.
  pub record Ran (ending : Ending) : Type 0 where
    pub printed : (e : Expected) → JobSays old.content job e → PrintsSoFar ending e
    -- the files that decide say something, where they are told
    pub said : IsTold ending → AreTold old.content (deciding ending job) → (e : Expected) × JobSays old.content job e
    pub counted : IsCounted ending

-- the name has these bytes, where its bytes were told before
abbrev pub HasBytes : (bytes : List ℕ) → (old new : List ℕ → Option (List ℕ)) → (name : List ℕ) → Type 0
HasBytes bytes old new name = is_some (old name) ≡ true → new name ≡ Some bytes

-- the file that a job puts has the bytes that it says
abbrev pub HasSaved : Job → Expected → (old new : List ℕ → Option (List ℕ)) → Type 0
HasSaved job e old new = AllByRecursion (HasBytes e.saved old new) (puts_of job)

-- the job prints its line after its put
abbrev pub PrintsBehindPut : Job → Type 0
PrintsBehindPut (Import file set) = Unit {0}
PrintsBehindPut (Normal set out) = Unit {0}
PrintsBehindPut _ = ⊥

module _ (job : Job) (old new : Outside) where
  -- the file has the bytes that the job says, where its bytes were told
  abbrev pub IsSaved : Type 0
  IsSaved = (e : Expected) → JobSays old.content job e → HasSaved job e old.content new.content

  -- The line after the put was not written whole: the job would be done, and the file has what it says.
  pub record PutBeforeLine (ending : Ending) : Type 0 where
    pub behind : PrintsBehindPut job
    pub cut : (ending ≡ NoMemory) ⊎ (ending ≡ SinkFault)
    pub done : (e : Expected) → JobSays old.content job e → e.ending ≡ Done
    pub saved : IsSaved

  -- where a job that ended so may have changed the file that it puts: it is done, a put of it failed, or the line after
  -- the put was not written whole
  abbrev pub OnlyThen : Ending → Type 0
  OnlyThen ending = (ending ≡ Done) ⊎ (PutsRose (puts_of job) old new
      ⊎ (SameContent old.content new.content ⊎ PutBeforeLine ending))

  -- A job that ended so leaves every name but the one that it puts, and changes that one only then.
  pub record Leaves (ending : Ending) : Type 0 where
    pub others : (name : List ℕ) → AllByRecursion (λ put. name ≢ put) (puts_of job)
        → new.content name ≡ old.content name
    pub only : OnlyThen ending
    pub saved : ending ≡ Done → IsSaved
