-- How a call of `author` ends: docs/DEFINITIONS.md, "Jobs for authors".
use Rattle.std.specs.Prelude.{◌≡◌, ◌≢◌, ℕ, Option, None, Some, List, []}
use Rattle.std.specs.List.{AllByRecursion}
use Rattle.ra_io.specs.Files.{SameContent}
use Rattle.ra_args.specs.AuthorWords.{AuthorJob, author_job_of, author_puts, author_reads}
use Rattle.ra_jobs.specs.Closing.{Closes}
use Rattle.ra_jobs.specs.Outside.{Outside, ReadsRose, PutsRose, SinkRose}
use Rattle.ra_author_jobs.specs.Expected.{Expected, IsAnswer, IsOwn, IsPut}
use Rattle.ra_author_jobs.specs.Texts.{usage_line, read_line, save_line}

-- the file that words put, where they are a job that puts one
abbrev pub puts_in : Option AuthorJob → List (List ℕ)
puts_in None = []
puts_in (Some job) = author_puts job

module _ (old new : Outside) where
  -- this text was printed whole, and the status is its own; or memory or a write failed after a front of it
  abbrev pub Prints : (own : ℕ) → (text : List ℕ) → (status : ℕ) → Type 0
  Prints own text status = Closes own text old.text new.text (SinkRose old new) status

  -- How an answer is put and printed: a put of its file failed, there was no memory for the put, or the file has what
  -- it
  -- says and its text was printed.
  pub data AnswerEnds (job : AuthorJob) (e : Expected) (status : ℕ) : Type 0 where
    unsaved : PutsRose (author_puts job) old new → Prints 9 save_line status → AnswerEnds job e status
    unput : SameContent old.content new.content → new.text ≡ old.text → status ≡ 1 → AnswerEnds job e status
    answered : IsPut job e.saved old.content new.content → Prints e.status e.text status → AnswerEnds job e status

  -- How a job ends: a read of a file that it reads failed, a put of the file that it puts failed, there was no memory
  -- before anything was put or printed, or it is done as it says.
  pub data JobEnds (job : AuthorJob) (status : ℕ) : Type 0 where
    read_failed : ReadsRose (author_reads job) old new → SameContent old.content new.content → Prints 4 read_line status
        → JobEnds job status
    save_failed : PutsRose (author_puts job) old new → Prints 9 save_line status → JobEnds job status
    no_memory : SameContent old.content new.content → new.text ≡ old.text → status ≡ 1 → JobEnds job status
    as_said : (e : Expected) → IsOwn e → IsAnswer old.content job e → IsPut job e.saved old.content new.content
        → Prints e.status e.text status → JobEnds job status

  -- How a call ends: the words are no job, or as their job ends.
  pub data Ends (words : List (List ℕ)) (status : ℕ) : Type 0 where
    no_job : author_job_of words ≡ None → SameContent old.content new.content
        → Prints 2 usage_line status → Ends words status
    of_job : (job : AuthorJob) → author_job_of words ≡ Some job → JobEnds job status → Ends words status

  -- no file changes but the one that the job puts
  abbrev pub OthersStay : List (List ℕ) → Type 0
  OthersStay puts = (name : List ℕ) → AllByRecursion (λ put. name ≢ put) puts → new.content name ≡ old.content name
