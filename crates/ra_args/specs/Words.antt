-- The job of the words: docs/DEFINITIONS.md, "Jobs".
use Rattle.std.specs.Prelude.{ℕ, Bool, false, not, ◌==◌, Option, None, Some, List, [], ◌∷◌}

-- what the words ask for: to play a trace, to count a set, to make and play a workload, to take a set from a document,
-- to warn of a set, to put the normal text of a set, or to tell why an achievement unlocks in a trace
pub data Job : Type 0 where
  Run : (set trace : List ℕ) → (restore save : Option (List ℕ)) → Job
  Check : (set : List ℕ) → Job
  Make : (number : ℕ) → Job
  Import : (file set : List ℕ) → Job
  Lint : (set : List ℕ) → Job
  Normal : (set out : List ℕ) → Job
  Explain : (set trace : List ℕ) → (id : ℕ) → Job

-- a word that names a file: not empty, and it does not begin with `-`
abbrev pub is_name : List ℕ → Bool
is_name [] = false
is_name (c ∷ cs) = not (c == 45)

-- the file of an option that may be missing
abbrev pub file_in : Option (List ℕ) → List (List ℕ)
file_in None = []
file_in (Some name) = name ∷ []

-- the files that a job reads
abbrev pub reads_of : Job → List (List ℕ)
reads_of (Run set trace restore save) = set ∷ trace ∷ file_in restore
reads_of (Check set) = set ∷ []
reads_of (Make number) = []
reads_of (Import file set) = file ∷ []
reads_of (Lint set) = set ∷ []
reads_of (Normal set out) = set ∷ []
reads_of (Explain set trace id) = set ∷ trace ∷ []

-- the file that decides whether a set is refused: of an import its document
abbrev pub set_read : Job → List (List ℕ)
set_read (Run set trace restore save) = set ∷ []
set_read (Check set) = set ∷ []
set_read (Make number) = []
set_read (Import file set) = file ∷ []
set_read (Lint set) = set ∷ []
set_read (Normal set out) = set ∷ []
set_read (Explain set trace id) = set ∷ []

-- the files that a job reads before a trace: its set, and the progress file that it goes on from
abbrev pub first_reads : Job → List (List ℕ)
first_reads (Run set trace restore save) = set ∷ file_in restore
first_reads (Check set) = set ∷ []
first_reads (Make number) = []
first_reads (Import file set) = file ∷ []
first_reads (Lint set) = set ∷ []
first_reads (Normal set out) = set ∷ []
first_reads (Explain set trace id) = set ∷ []

-- the file that a job puts
abbrev pub puts_of : Job → List (List ℕ)
puts_of (Run set trace restore save) = file_in save
puts_of (Import file set) = set ∷ []
puts_of (Normal set out) = out ∷ []
puts_of _ = []

-- the file that words put, where they are a job that puts one
abbrev pub puts_in : Option Job → List (List ℕ)
puts_in None = []
puts_in (Some job) = puts_of job
