-- What each status of a call of `play` says: docs/DEFINITIONS.md, "What each status says".
use Rattle.std.specs.Prelude.{◌≡◌, ◌≢◌, ◌⊎◌, ◌≤◌, ℕ, None, Some, List, ◌++◌}
use Rattle.std.specs.List.{concat, AllByRecursion}
use Rattle.ra_io.specs.Files.{SameContent}
use Rattle.ra_args.specs.Words.{Job, reads_of, puts_of, puts_in, set_read, first_reads}
use Rattle.ra_args.specs.JobWords.{job_of}
use Rattle.ra_session.specs.Endings.{status_of, last_line}
use Rattle.ra_session.specs.Expected.{Expected, JobSays}
use Rattle.ra_jobs.specs.Outside.{Outside, GrewBy, ReadsRose, PutsRose, SinkRose, AreTold}
use Rattle.ra_session.specs.Running.{IsSaved, PrintsBehindPut, HasSaved, deciding}
use Rattle.ra_session.specs.declared.ending.Ending.{Ending}
use Rattle.ra_session.specs.declared.ending.Ending.TheVariants.{Done, NoMemory, NoJob, BadSet, ReadFault, SinkFault}
use Rattle.ra_session.specs.declared.ending.Ending.TheVariants.{BadProgress, BadTrace, LongTrace, SaveFault}
use Rattle.ra_session.specs.declared.ending.Ending.TheVariants.{BadDocument, LongNormal, NoAchievement, ManyRows}
use Rattle.ra_player.specs.Headline.{PlaysAs, RefusesWords}

-- the statuses that a call of `play` may answer
abbrev pub IsStatus : ℕ → Type 0
IsStatus s = s ≤ 12

-- the set was refused
abbrev pub IsBadSet : Ending → Type 0
IsBadSet (BadSet why) = Unit {0}
IsBadSet _ = ⊥

-- the progress file was refused
abbrev pub IsBadProgress : Ending → Type 0
IsBadProgress (BadProgress why) = Unit {0}
IsBadProgress _ = ⊥

-- the trace was refused at its first bad record
abbrev pub IsBadTrace : Ending → Type 0
IsBadTrace (BadTrace at why) = Unit {0}
IsBadTrace _ = ⊥

-- the document was refused, and not because its set file is
abbrev pub IsBadDocument : Ending → Type 0
IsBadDocument (BadDocument why) = Unit {0}
IsBadDocument _ = ⊥

-- the set was accepted, and its normal text passes a limit
abbrev pub IsLongNormal : Ending → Type 0
IsLongNormal (LongNormal which found) = Unit {0}
IsLongNormal _ = ⊥

-- the set was accepted, and it has no achievement of the id
abbrev pub IsNoAchievement : Ending → Type 0
IsNoAchievement (NoAchievement id) = Unit {0}
IsNoAchievement _ = ⊥

-- the set was accepted, and the rows of the trace are too many before an unlock
abbrev pub IsManyRows : Ending → Type 0
IsManyRows (ManyRows found) = Unit {0}
IsManyRows _ = ⊥

module _ (words : List (List ℕ)) (old new : Outside) where
  -- The words are a job, and where the files that decide are told, the job says that it ends so, and the text grew by
  -- all that it says and by the last line.
  pub record EndsAsSaid (deciding : Job → List (List ℕ)) (Ends : Ending → Type 0) : Type 0 where
    pub job : Job
    pub is_job : job_of words ≡ Some job
    pub said : AreTold old.content (deciding job)
        → (e : Expected) × JobSays old.content job e × Ends e.ending
        × GrewBy old new (concat e.pieces ++ last_line e.ending)

  -- The words are no job.
  pub record IsNoJob : Type 0 where
    pub no_job : job_of words ≡ None
    pub text : GrewBy old new (last_line NoJob)

  -- A read of a file that the job reads failed, and one that decides how the job would have ended.
  pub record MeetsReadFault : Type 0 where
    pub job : Job
    pub is_job : job_of words ≡ Some job
    pub rose : ReadsRose (reads_of job) old new
    pub decided : (e : Expected) → JobSays old.content job e → ReadsRose (deciding e.ending job) old new

  -- A put of the file that the job puts failed.
  pub record MeetsSaveFault : Type 0 where
    pub job : Job
    pub is_job : job_of words ≡ Some job
    pub rose : PutsRose (puts_of job) old new

  -- The cause of each ending.
  abbrev pub Cause : Ending → Type 0
  Cause NoMemory = Unit {0}
  Cause NoJob = IsNoJob
  Cause ReadFault = MeetsReadFault
  Cause SinkFault = SinkRose old new
  Cause SaveFault = MeetsSaveFault
  Cause ending = EndsAsSaid (deciding ending) (λ said. said ≡ ending)

  -- What the words and the told files say is what is printed, whatever the status.
  pub record PlaysWords (deciding : Ending → Job → List (List ℕ)) (status : ℕ) : Type 0 where
    pub no_job : job_of words ≡ None → RefusesWords old new status
    pub job : (job : Job) (e : Expected) → job_of words ≡ Some job → JobSays old.content job e
        → PlaysAs deciding job e old new status

  -- What a call that answers this status did: there is an ending of this status that has its cause.
  pub record Answers (status : ℕ) : Type 0 where
    pub ending : Ending
    pub is : status ≡ status_of ending
    pub cause : Cause ending
    pub printed : PlaysWords deciding status

  -- The line after the put was not written whole: the job would be done, and the file has what it says.
  pub record PutsBeforeLine (status : ℕ) : Type 0 where
    pub job : Job
    pub is_job : job_of words ≡ Some job
    pub behind : PrintsBehindPut job
    pub cut : (status ≡ 1) ⊎ (status ≡ 5)
    pub done : (e : Expected) → JobSays old.content job e → e.ending ≡ Done
    pub saved : IsSaved job old new

  -- What a call that answers this status leaves of the files: no name changes but the one that the words put, and that
  -- one only where the job was done, and then it has the bytes that the job says; where a put of it failed; or where
  -- the
  -- line after the put was not written whole.
  pub record LeavesFiles (status : ℕ) : Type 0 where
    pub others : (name : List ℕ) → AllByRecursion (λ put. name ≢ put) (puts_in (job_of words))
        → new.content name ≡ old.content name
    pub only : (status ≡ 0) ⊎ (PutsRose (puts_in (job_of words)) old new
        ⊎ (SameContent old.content new.content ⊎ PutsBeforeLine status))
    pub saved : status ≡ 0 → (job : Job) (e : Expected) → job_of words ≡ Some job
        → JobSays old.content job e → HasSaved job e old.content new.content

  -- No read of these files failed in the call, no put of the job's file where the job would be done, and no write.
  pub record MeetsNoFault (reads : List (List ℕ)) (job : Job) (e : Expected) : Type 0 where
    pub read : ReadsRose reads old new → ⊥
    pub put : e.ending ≡ Done → PutsRose (puts_of job) old new → ⊥
    pub write : SinkRose old new → ⊥

  -- Without a fault of what decides a job is done as the told files say, and all of it is printed, unless memory was
  -- wanting.
  abbrev pub IsWhole : (deciding : Ending → Job → List (List ℕ)) → ℕ → Type 0
  IsWhole deciding status = (job : Job) (e : Expected) → job_of words ≡ Some job
      → JobSays old.content job e → MeetsNoFault (deciding e.ending job) job e
      → (status ≡ 1) ⊎ ((status ≡ status_of e.ending) × GrewBy old new (concat e.pieces ++ last_line e.ending))

  -- The same, status by status.
  pub record SaysEachStatus (status : ℕ) : Type 0 where
    pub known : IsStatus status
    pub printed : PlaysWords (λ ending. reads_of) status
    pub whole : IsWhole (λ ending. reads_of) status
    pub done : status ≡ 0 → EndsAsSaid reads_of (λ ending. ending ≡ Done)
    pub no_job : status ≡ 2 → IsNoJob
    pub set : status ≡ 3 → EndsAsSaid set_read IsBadSet
    pub read : status ≡ 4 → MeetsReadFault
    pub write : status ≡ 5 → SinkRose old new
    pub progress : status ≡ 6 → EndsAsSaid first_reads IsBadProgress
    pub trace : status ≡ 7 → EndsAsSaid reads_of IsBadTrace
    pub long : status ≡ 8 → EndsAsSaid reads_of (λ ending. ending ≡ LongTrace)
    pub save : status ≡ 9 → MeetsSaveFault
    pub document : status ≡ 10 → EndsAsSaid reads_of IsBadDocument
    pub normal : status ≡ 11 → EndsAsSaid reads_of IsLongNormal
    pub explain : status ≡ 12 → EndsAsSaid set_read IsNoAchievement ⊎ EndsAsSaid reads_of IsManyRows
