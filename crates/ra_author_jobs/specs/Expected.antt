-- What a job of the program for authors says over files: docs/DEFINITIONS.md, "Jobs for authors".
use Rattle.std.specs.Prelude.{◌≡◌, ◌⊎◌, ℕ, zero, suc, ◌+◌, ◌==◌, ◌||◌, Bool, Option, None, Some, option_map, List, ◌++◌}
use Rattle.std.specs.Prelude.{take, codes, is_some, true}
use Rattle.std.specs.List.{AllByRecursion}
use Rattle.ra_io.specs.Files.{SameContent}
use Rattle.ra_args.specs.AuthorWords.{AuthorJob, Review, Why, Import, Help, Version, author_puts, author_reads}
use Rattle.ra_patch.specs.Answers.{document_limit}
use Rattle.ra_patch.specs.LeftAnswers.{LeavesDocument, LeavesNothing}
use Rattle.ra_patch.specs.declared.document_refused.DocumentRefused.{DocumentRefused}
use Rattle.ra_patch.specs.declared.document_refused.DocumentRefused.TheVariants as refused
use Rattle.ra_patch.specs.declared.left_out.LeftOut.{LeftOut}
use Rattle.ra_review.specs.Reviews.{Said, IsReview, refused_line}
use Rattle.ra_set.specs.Accepted.{IsSet}
use Rattle.ra_set.specs.Contents.{SetContents}
use Rattle.ra_set.specs.Limits.{most_bytes}
use Rattle.ra_set.specs.Refusals.{Refuses}
use Rattle.ra_set.specs.declared.refused.SetRefused.{SetRefused}
use Rattle.ra_jobs.specs.Outside.{AreTold}
use Rattle.ra_why_job.specs.Says.{WhySays, decided_by}
use Rattle.ra_author_jobs.specs.Importing.{import_text, refused_document}
use Rattle.ra_author_jobs.specs.Texts.{help_text, version_text}
use Rattle.ra_author_jobs.specs.declared.answer.Answer.{Answer}

-- what a job says where nothing fails: its status, all that it prints, and the file that it puts, if it puts one
pub record Expected : Type 0 where
  pub status : ℕ
  pub text : List ℕ
  pub saved : Option (List ℕ)

-- what an answer says
abbrev pub expected_of : Answer → Expected
expected_of a = record { status = a.status; text = a.text.items; saved = option_map (λ bytes. bytes.items) a.saved }

-- a job that puts no file says this text, with this status
abbrev pub prints : (status : ℕ) → List ℕ → Expected
prints status text = record { status = status; text = text; saved = None }

-- the status of a review, by how many lines are refused and by the limit that is passed
abbrev pub review_status : (refused : ℕ) → Option SetRefused → ℕ
review_status zero None = 0
review_status zero (Some why) = 3
review_status (suc n) limit = 3

-- what `review` of a set says, where its bytes are told: at most a byte more than a set may have is read
pub data ReviewSays (content : List ℕ → Option (List ℕ)) (set : List ℕ) : Expected → Type 0 where
  reviews : (file : List ℕ) (said : Said) → content set ≡ Some file → IsReview (take (most_bytes + 1) file) said
      → ReviewSays content set (prints (review_status said.refused said.limit) said.text)

-- what is said where this set file is put, whose set this is, and this is left out
abbrev pub imported : SetContents → (text : List ℕ) → List LeftOut → Expected
imported set text left_out = record { status = 0; text = import_text set left_out; saved = Some text }

-- what is said where this set file is left of a document, and this is left out
pub data SaysOfLeft (text : List ℕ) (left_out : List LeftOut) : Expected → Type 0 where
  refuses_set : (why : SetRefused) → Refuses text why → SaysOfLeft text left_out (prints 3 (refused_line why))
  imports : (set : SetContents) → IsSet text set
      → SaysOfLeft text left_out (imported set text left_out)

-- the refusal is told of a document: there was memory to judge it
abbrev pub IsOfDocument : DocumentRefused → Type 0
IsOfDocument refused.Memory = ⊥
IsOfDocument _ = Unit {0}

-- what is said of the bytes of a document
pub data SaysOfBytes (bytes : List ℕ) : Expected → Type 0 where
  refuses_document : (why : DocumentRefused) → LeavesNothing bytes why
      → SaysOfBytes bytes (prints 10 (refused_document why))
  leaves : (text : List ℕ) (left_out : List LeftOut) (e : Expected) → LeavesDocument bytes text left_out
      → SaysOfLeft text left_out e → SaysOfBytes bytes e

-- what `import` of this document says, where its bytes are told: at most a byte more than a document may have is read
pub data ImportSays (content : List ℕ → Option (List ℕ)) (file : List ℕ) : Expected → Type 0 where
  of_bytes : (bytes : List ℕ) (e : Expected) → content file ≡ Some bytes
      → SaysOfBytes (take (document_limit + 1) bytes) e
      → ImportSays content file e

-- what a job says over files whose bytes are told
abbrev pub JobSays : (content : List ℕ → Option (List ℕ)) → AuthorJob → Expected → Type 0
JobSays content (Review set) e = ReviewSays content set e
JobSays content (Why set trace id) e = WhySays content set trace id e.status e.text × (e.saved ≡ None)
JobSays content (Import file set) e = ImportSays content file e
JobSays content Help e = e ≡ prints 0 help_text
JobSays content Version e = e ≡ prints 0 version_text

-- the files that decide that a job says something with this status: those that it reads; of `why` the set alone, where
-- it is
-- refused or has no such achievement
abbrev pub deciding : AuthorJob → (status : ℕ) → List (List ℕ)
deciding (Why set trace id) status = decided_by set trace status
deciding job status = author_reads job

-- What is answered is what the job says, where the files that decide it are told, and the job says nothing else.
pub record IsAnswer (content : List ℕ → Option (List ℕ)) (job : AuthorJob) (e : Expected) : Type 0 where
  pub said : AreTold content (deciding job e.status) → JobSays content job e
  pub one : (other : Expected) → JobSays content job other → e ≡ other

-- whether a job gives this status where it is not done
abbrev pub is_refusal : ℕ → Bool
is_refusal status = status == 3 || (status == 7 || (status == 8 || (status == 10 || status == 12)))

-- the status is one that a job gives by itself
abbrev pub IsOwnStatus : ℕ → Type 0
IsOwnStatus status = (status ≡ 0) ⊎ (is_refusal status ≡ true)

-- the status is one that a job gives by itself, and a file is put with status 0 alone
abbrev pub IsOwn : Expected → Type 0
IsOwn e = (e.status ≡ 0) ⊎ ((is_refusal e.status ≡ true) × (e.saved ≡ None))

-- the name has these bytes, where its bytes were told before
abbrev pub HasBytes : (bytes : List ℕ) → (old new : List ℕ → Option (List ℕ)) → (name : List ℕ) → Type 0
HasBytes bytes old new name = is_some (old name) ≡ true → new name ≡ Some bytes

-- the file that a job puts has the bytes that it says
abbrev pub HasSaved : AuthorJob → (saved : Option (List ℕ)) → (old new : List ℕ → Option (List ℕ)) → Type 0
HasSaved job saved old new =
    (bytes : List ℕ) → saved ≡ Some bytes → AllByRecursion (HasBytes bytes old new) (author_puts job)

-- the file was put that a job says, and no file where it says none
pub record IsPut (job : AuthorJob) (saved : Option (List ℕ)) (old new : List ℕ → Option (List ℕ)) : Type 0 where
  pub has : HasSaved job saved old new
  pub none : saved ≡ None → SameContent old new
