-- The command line as clap reads it: docs/DEFINITIONS.md, "Jobs".
use Rattle.std.specs.Prelude.{Option, Some, None, true, List, codes, bytes_eq, if◌then◌else◌, option_map}
use Rattle.std.specs.Prelude.{option_and_then}
use Rattle.clap.specs.Words.{App, Row, Rule, Text, new_app, new_rule, with_rule, with_subcommand, first_of}
use Rattle.clap.specs.Words.{subcommand_of}
use Rattle.clap.specs.declared.builder.action.ArgAction.TheVariants.{Set}
use Rattle.ra_args.specs.Words.{Job, Run, Check, Make, Import, Lint, Normal, Explain}
use Rattle.ra_args.specs.JobWords.{number_of}

-- a word that has to be there
abbrev pub required_rule : Text → Rule
required_rule id = record (new_rule id) { required = true; action = Some Set }

-- an option with one value
abbrev pub option_rule : Text → Rule
option_rule id = record (new_rule id) { long = Some id; action = Some Set }

-- `run SET TRACE [--restore FILE] [--save FILE]`
abbrev pub run_app : App
run_app =
    with_rule (with_rule (with_rule (with_rule (new_app (codes "run"))
    (required_rule (codes "SET"))) (required_rule (codes "TRACE")))
    (option_rule (codes "restore"))) (option_rule (codes "save"))

-- a command with one word after its name
abbrev pub short_app : Text → Text → App
short_app name id = with_rule (new_app name) (required_rule id)

-- a command with two words after its name
abbrev pub pair_app : Text → Text → Text → App
pair_app name first second = with_rule (with_rule (new_app name) (required_rule first)) (required_rule second)

-- `explain SET TRACE ID`
abbrev pub explain_app : App
explain_app = with_rule (pair_app (codes "explain") (codes "SET") (codes "TRACE")) (required_rule (codes "ID"))

-- the command before its jobs are named: its words have no name of the program in front
abbrev pub bare_app : App
bare_app = let app = new_app (codes "ra_player") in record app { top = record app.top { no_binary_name = true } }

-- the command with its jobs
abbrev pub player_app : App
player_app =
    with_subcommand (with_subcommand (with_subcommand
    (with_subcommand (with_subcommand (with_subcommand (with_subcommand bare_app run_app.top)
    (short_app (codes "check") (codes "SET")).top) (short_app (codes "make") (codes "N")).top)
    (pair_app (codes "import") (codes "FILE") (codes "SET")).top) (short_app (codes "lint") (codes "SET")).top)
    (pair_app (codes "normal") (codes "SET") (codes "OUT")).top) explain_app.top

-- a run of two files and of those options that are there
abbrev pub run_with : Option Text → Option Text → Option Text → Option Text → Option Job
run_with (Some set) (Some trace) restore save = Some (Run set trace restore save)
run_with _ _ restore save = None

-- the run of the values that were given
abbrev pub run_given : List Row → Option Job
run_given rows =
    run_with (first_of (codes "SET") rows) (first_of (codes "TRACE") rows)
    (first_of (codes "restore") rows) (first_of (codes "save") rows)

-- the check of the value that was given
abbrev pub check_given : List Row → Option Job
check_given rows = option_map Check (first_of (codes "SET") rows)

-- the workload of the value that was given
abbrev pub make_given : List Row → Option Job
make_given rows = option_map Make (option_and_then number_of (first_of (codes "N") rows))

-- the import of the values that were given
abbrev pub import_given : List Row → Option Job
import_given rows =
    option_and_then (λ file. option_map (Import file) (first_of (codes "SET") rows)) (first_of (codes "FILE") rows)

-- the warnings on the value that was given
abbrev pub lint_given : List Row → Option Job
lint_given rows = option_map Lint (first_of (codes "SET") rows)

-- the normal text of the values that were given
abbrev pub normal_given : List Row → Option Job
normal_given rows =
    option_and_then (λ set. option_map (Normal set) (first_of (codes "OUT") rows)) (first_of (codes "SET") rows)

-- the explanation of the values that were given
abbrev pub explain_given : List Row → Option Job
explain_given rows =
    option_and_then (λ set. option_and_then (λ trace. option_map (Explain set trace)
    (option_and_then number_of (first_of (codes "ID") rows))) (first_of (codes "TRACE") rows))
    (first_of (codes "SET") rows)

-- the job of a name, with the values that were given
abbrev pub job_given : Text → List Row → Option Job
job_given name rows =
    if bytes_eq name (codes "run") then run_given rows
    else if bytes_eq name (codes "check") then check_given rows
    else if bytes_eq name (codes "make") then make_given rows
    else if bytes_eq name (codes "import") then import_given rows
    else if bytes_eq name (codes "lint") then lint_given rows
    else if bytes_eq name (codes "normal") then normal_given rows
    else if bytes_eq name (codes "explain") then explain_given rows
    else None

-- the job that clap reads of the words
abbrev pub job_read : List Text → Option Job
job_read words = option_and_then (λ found. job_given found.0 found.1) (subcommand_of player_app words)
