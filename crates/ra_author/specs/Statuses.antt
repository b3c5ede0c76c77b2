-- What each status of a call of `author` says: docs/DEFINITIONS.md, "Jobs for authors".
use Rattle.std.specs.Prelude.{◌≡◌, ◌⊎◌, ℕ, ◌≤◌, Option, None, Some, List}
use Rattle.ra_io.specs.Files.{SameContent}
use Rattle.ra_args.specs.AuthorWords.{AuthorJob, author_job_of, author_puts, author_reads}
use Rattle.ra_jobs.specs.Outside.{Outside, GrewBy, ReadsRose, PutsRose, SinkRose, AreTold}
use Rattle.ra_author_jobs.specs.Expected.{Expected, HasSaved, IsOwnStatus, JobSays, deciding}
use Rattle.ra_author_jobs.specs.Texts.{usage_line, read_line, save_line}
use Rattle.ra_author.specs.Endings.{AnswerEnds, puts_in}

-- the statuses that a call of `author` may answer
abbrev pub IsStatus : ℕ → Type 0
IsStatus status = (status ≤ 5) ⊎ ((status ≡ 9) ⊎ IsOwnStatus status)

module _ (words : List (List ℕ)) (old new : Outside) where
  -- The words are a job, and where the files that decide this status are told, it says this status, and the text grew
  -- by all that it says.
  pub record EndsAsSaid (status : ℕ) : Type 0 where
    pub job : AuthorJob
    pub is_job : author_job_of words ≡ Some job
    pub said : AreTold old.content (deciding job status)
        → (e : Expected) × JobSays old.content job e × (e.status ≡ status) × GrewBy old new e.text

  -- The words are no job.
  pub record IsNoJob : Type 0 where
    pub no_job : author_job_of words ≡ None
    pub text : GrewBy old new usage_line

  -- A read of a file that the job reads failed.
  pub record MeetsReadFault : Type 0 where
    pub job : AuthorJob
    pub is_job : author_job_of words ≡ Some job
    pub rose : ReadsRose (author_reads job) old new
    pub text : GrewBy old new read_line

  -- A put of the file that the job puts failed.
  pub record MeetsSaveFault : Type 0 where
    pub job : AuthorJob
    pub is_job : author_job_of words ≡ Some job
    pub rose : PutsRose (author_puts job) old new
    pub text : GrewBy old new save_line

  -- No read of a file that the job reads failed in the call, no put of its file, and no write.
  pub record MeetsNoFault (job : AuthorJob) : Type 0 where
    pub read : ReadsRose (author_reads job) old new → ⊥
    pub put : PutsRose (author_puts job) old new → ⊥
    pub write : SinkRose old new → ⊥

  -- Without a fault the words that are no job have the usage line, unless memory ran out.
  abbrev pub IsUsage : ℕ → Type 0
  IsUsage status = author_job_of words ≡ None → (SinkRose old new → ⊥)
      → (status ≡ 1) ⊎ ((status ≡ 2) × GrewBy old new usage_line)

  -- Without a fault a job is done as the told files say, and all of it is printed, unless memory ran out.
  abbrev pub IsWhole : ℕ → Type 0
  IsWhole status = (job : AuthorJob) (e : Expected) → author_job_of words ≡ Some job
      → JobSays old.content job e → MeetsNoFault job
      → (status ≡ 1) ⊎ ((status ≡ e.status) × GrewBy old new e.text)

  -- What each status says.
  pub record SaysEachStatus (status : ℕ) : Type 0 where
    pub known : IsStatus status
    pub usage : IsUsage status
    pub whole : IsWhole status
    pub done : status ≡ 0 → EndsAsSaid 0
    pub no_job : status ≡ 2 → IsNoJob
    pub set : status ≡ 3 → EndsAsSaid 3
    pub read : status ≡ 4 → MeetsReadFault
    pub write : status ≡ 5 → SinkRose old new
    pub trace : status ≡ 7 → EndsAsSaid 7
    pub long : status ≡ 8 → EndsAsSaid 8
    pub save : status ≡ 9 → MeetsSaveFault
    pub document : status ≡ 10 → EndsAsSaid 10
    pub lacks : status ≡ 12 → EndsAsSaid 12

  -- The text was not written whole after the put: the file has what the job says.
  pub record PutsBeforeText (status : ℕ) : Type 0 where
    pub cut : (status ≡ 1) ⊎ (status ≡ 5)
    pub saved : (job : AuthorJob) (e : Expected) → author_job_of words ≡ Some job → JobSays old.content job e
        → HasSaved job e.saved old.content new.content

  -- What a call that answers this status leaves of the files: the file that the words put changes only where the job
  -- was
  -- done, and then it has the bytes that the job says; where a put of it failed; or where the text after the put was
  -- not
  -- written whole.
  pub record LeavesFiles (status : ℕ) : Type 0 where
    pub only : (status ≡ 0) ⊎ (PutsRose (puts_in (author_job_of words)) old new
        ⊎ (SameContent old.content new.content ⊎ PutsBeforeText status))
    pub saved : status ≡ 0 → (job : AuthorJob) (e : Expected) → author_job_of words ≡ Some job
        → JobSays old.content job e
        → HasSaved job e.saved old.content new.content
