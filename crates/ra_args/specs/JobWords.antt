-- The job of the words: docs/DEFINITIONS.md, "Jobs".
use Rattle.std.specs.Prelude.{ℕ, ◌+◌, ◌-◌, ◌*◌, ◌^◌, ◌&&◌, Bool, not, if◌then◌else◌, nat_lt, Option, None, Some}
use Rattle.std.specs.Prelude.{option_map, List, [], ◌∷◌, fold, codes, bytes_eq, decimal}
use Rattle.ra_args.specs.Words.{Job, Run, Check, Make, Import, Lint, Normal, Explain, is_name}
use Rattle.ra_args.specs.declared.job_words.Job.{Job as ReadJob}
use Rattle.ra_args.specs.declared.job_words.Job.TheVariants as read

-- the number that a word of digits spells
abbrev pub number_in : List ℕ → ℕ
number_in word = fold (λ n c. n * 10 + (c - 48)) 0 word

-- the word is the decimal text of a number of 32 bits
abbrev pub is_number : List ℕ → Bool
is_number word = nat_lt (number_in word) (2 ^ 32) && bytes_eq word (decimal (number_in word))

-- the number of 32 bits of which a word is the decimal text
abbrev pub number_of : List ℕ → Option ℕ
number_of word = if is_number word then Some (number_in word) else None

-- the files of `--restore` and of `--save`, each at most once and in this order
abbrev pub options_of : List (List ℕ) → Option (Option (List ℕ) × Option (List ℕ))
options_of [] = Some (None, None)
options_of (option ∷ file ∷ []) =
    if not (is_name file) then None
    else if bytes_eq option (codes "--restore") then Some (Some file, None)
    else if bytes_eq option (codes "--save") then Some (None, Some file)
    else None
options_of (first ∷ restore ∷ second ∷ save ∷ []) =
    if bytes_eq first (codes "--restore") && (is_name restore && (bytes_eq second (codes "--save") && is_name save))
    then Some (Some restore, Some save)
    else None
options_of _ = None

-- the words after `run`: a set, a trace, and options
abbrev pub run_of : List (List ℕ) → Option Job
run_of (set ∷ trace ∷ options) =
    if is_name set && is_name trace
    then option_map (λ files. Run set trace files.0 files.1) (options_of options) else None
run_of _ = None

-- the words after `check`: a set
abbrev pub check_of : List (List ℕ) → Option Job
check_of (set ∷ []) = if is_name set then Some (Check set) else None
check_of _ = None

-- the words after `make`: a number
abbrev pub make_of : List (List ℕ) → Option Job
make_of (number ∷ []) = option_map Make (number_of number)
make_of _ = None

-- the words after `import`: a document and a set
abbrev pub import_of : List (List ℕ) → Option Job
import_of (file ∷ set ∷ []) = if is_name file && is_name set then Some (Import file set) else None
import_of _ = None

-- the words after `lint`: a set
abbrev pub lint_of : List (List ℕ) → Option Job
lint_of (set ∷ []) = if is_name set then Some (Lint set) else None
lint_of _ = None

-- the words after `normal`: a set and the file of its normal text
abbrev pub normal_of : List (List ℕ) → Option Job
normal_of (set ∷ out ∷ []) = if is_name set && is_name out then Some (Normal set out) else None
normal_of _ = None

-- the words after `explain`: a set, a trace and the id of an achievement
abbrev pub explain_of : List (List ℕ) → Option Job
explain_of (set ∷ trace ∷ id ∷ []) =
    if is_name set && is_name trace then option_map (Explain set trace) (number_of id) else None
explain_of _ = None

-- the job that the words ask for, where they are one
abbrev pub job_of : List (List ℕ) → Option Job
job_of [] = None
job_of (name ∷ words) =
    if bytes_eq name (codes "run") then run_of words
    else if bytes_eq name (codes "check") then check_of words
    else if bytes_eq name (codes "make") then make_of words
    else if bytes_eq name (codes "import") then import_of words
    else if bytes_eq name (codes "lint") then lint_of words
    else if bytes_eq name (codes "normal") then normal_of words
    else if bytes_eq name (codes "explain") then explain_of words
    else None

-- what a job that was read asks for
abbrev pub job_contents : ReadJob → Job
job_contents (read.Run set trace restore save) =
    Run set.now trace.now (option_map (λ file. file.now) restore) (option_map (λ file. file.now) save)
job_contents (read.Check set) = Check set.now
job_contents (read.Make number) = Make number
job_contents (read.Import file set) = Import file.now set.now
job_contents (read.Lint set) = Lint set.now
job_contents (read.Normal set out) = Normal set.now out.now
job_contents (read.Explain set trace id) = Explain set.now trace.now id
