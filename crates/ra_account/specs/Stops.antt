-- What stops the groups of a trigger at a frame: docs/DEFINITIONS.md, "Group outcome".
use Rattle.std.specs.Prelude.{List}
use Rattle.std.specs.List.{list_all, list_any}
use Rattle.ra_group.specs.declared.form.Form.TheVariants.{InTrigger}
use Rattle.ra_group.specs.Equations.{Frame}
use Rattle.ra_group.specs.Outcome.{outcome_of}
use Rattle.ra_account.specs.declared.stops.Stops.{Stops}

-- what stops a group
abbrev pub stops_of : Frame → Stops
stops_of f = record { paused = (outcome_of InTrigger f).paused; reset = (outcome_of InTrigger f).reset }

-- whether all of some groups are paused, and whether some resets
abbrev pub stops_of_all : List Frame → Stops
stops_of_all fs = record {
  paused = list_all (λ f. (stops_of f).paused) fs;
  reset = list_any (λ f. (stops_of f).reset) fs;
}
