-- What a workload prints: docs/DEFINITIONS.md, "Workload".
use Rattle.std.specs.Prelude.{◌≡◌, ℕ, List, [], codes}
use Rattle.std.specs.List.{concat}
use Rattle.ra_set.specs.Contents.{SetContents}
use Rattle.ra_set.specs.Accepted.{IsSet}
use Rattle.ra_trace.specs.Workload.{made_set, made_trace}
use Rattle.ra_meaning.specs.Earned.{none_earned}
use Rattle.ra_meaning.specs.Openings.{plain_opening}
use Rattle.ra_session.specs.Expected.{played}

-- the name of the set in memory
abbrev pub set_name : List ℕ
set_name = codes "set"

-- the name of the trace in memory
abbrev pub trace_name : List ℕ
trace_name = codes "trace"

-- The text is what a run of the number's set over its trace prints.
pub record IsMadeText (number : ℕ) (text : List ℕ) : Type 0 where
  pub set : SetContents
  pub accepted : IsSet (made_set number) set
  pub all : text ≡ concat (played set (plain_opening set) [] (none_earned set) (made_trace number)).pieces
