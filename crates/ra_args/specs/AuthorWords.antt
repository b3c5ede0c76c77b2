-- The job of the words of the program for authors: docs/DEFINITIONS.md, "Jobs for authors".
use Rattle.std.specs.Prelude.{ℕ, ◌&&◌, ◌||◌, Bool, if◌then◌else◌, Option, None, Some, option_map, List, [], ◌∷◌, codes}
use Rattle.std.specs.Prelude.{bytes_eq}
use Rattle.ra_args.specs.JobWords.{number_of}
use Rattle.ra_args.specs.Words.{is_name}
use Rattle.ra_args.specs.declared.author_words.AuthorJob.{AuthorJob as ReadJob}
use Rattle.ra_args.specs.declared.author_words.AuthorJob.TheVariants as read

-- what the words ask for: to review a set, to tell why an achievement did or did not unlock over a trace, to put the
-- set
-- that is left of a document, the help text, or the version
pub data AuthorJob : Type 0 where
  Review : (set : List ℕ) → AuthorJob
  Why : (set trace : List ℕ) → (id : ℕ) → AuthorJob
  Import : (file set : List ℕ) → AuthorJob
  Help : AuthorJob
  Version : AuthorJob

-- a word that asks for the help text
abbrev pub is_help : List ℕ → Bool
is_help word = bytes_eq word (codes "help") || bytes_eq word (codes "--help") || bytes_eq word (codes "-h")

-- a word that asks for the version
abbrev pub is_version : List ℕ → Bool
is_version word = bytes_eq word (codes "version") || bytes_eq word (codes "--version")

-- the job of a word that stands alone
abbrev pub lone_job : List ℕ → Option AuthorJob
lone_job word = if is_help word then Some Help else if is_version word then Some Version else None

-- the job of a word and a file
abbrev pub job_of_one : (name set : List ℕ) → Option AuthorJob
job_of_one name set = if bytes_eq name (codes "review") && is_name set then Some (Review set) else None

-- the job of a word and two files
abbrev pub job_of_two : (name file set : List ℕ) → Option AuthorJob
job_of_two name file set =
    if bytes_eq name (codes "import") && (is_name file && is_name set) then Some (Import file set) else None

-- the job of a word, two files and a number
abbrev pub job_of_three : (name set trace id : List ℕ) → Option AuthorJob
job_of_three name set trace id =
    if bytes_eq name (codes "why") && (is_name set && is_name trace) then option_map (Why set trace) (number_of id)
    else None

-- the job that the words ask for, where they are one; no words ask for the help text
abbrev pub author_job_of : List (List ℕ) → Option AuthorJob
author_job_of [] = Some Help
author_job_of (word ∷ []) = lone_job word
author_job_of (name ∷ set ∷ []) = job_of_one name set
author_job_of (name ∷ file ∷ set ∷ []) = job_of_two name file set
author_job_of (name ∷ set ∷ trace ∷ id ∷ []) = job_of_three name set trace id
author_job_of (name ∷ first ∷ second ∷ third ∷ fourth ∷ more) = None

-- what a job that was read asks for
abbrev pub author_contents : ReadJob → AuthorJob
author_contents (read.Review set) = Review set.now
author_contents (read.Why set trace id) = Why set.now trace.now id
author_contents (read.Import file set) = Import file.now set.now
author_contents read.Help = Help
author_contents read.Version = Version

-- the files that a job reads
abbrev pub author_reads : AuthorJob → List (List ℕ)
author_reads (Review set) = set ∷ []
author_reads (Why set trace id) = set ∷ trace ∷ []
author_reads (Import file set) = file ∷ []
author_reads _ = []

-- the file that a job puts
abbrev pub author_puts : AuthorJob → List (List ℕ)
author_puts (Import file set) = set ∷ []
author_puts _ = []
