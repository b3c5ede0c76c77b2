-- How many numbers the run of a display keeps: docs/DEFINITIONS.md, "Shape of a set".
use Rattle.std.specs.Prelude.{◌<◌, ◌≤◌, ◌^◌, Option, None, Some, option_map, length}
use Rattle.ra_progress.specs.declared.shape.PresenceShape.{PresenceShape}
use Rattle.ra_display.specs.declared.presence_run.PresenceRun.{PresenceRun}
use Rattle.ra_display.specs.PresenceRuns.{presence_kept}

-- the shape of a display, by the numbers that its run keeps
abbrev pub presence_run_shape : PresenceRun → PresenceShape
presence_run_shape run = record {
  lines = length run.lines.items;
  hits = length (presence_kept run).hits;
  parts = length (presence_kept run).numbers;
}

-- the shape of a display that may be missing, by the numbers that its run keeps
abbrev pub optional_run_shape : Option PresenceRun → Option PresenceShape
optional_run_shape run = option_map presence_run_shape run

-- the counts of a display that may be missing are within the limits of a set
abbrev pub IsSmallPresence : Option PresenceShape → Type 0
IsSmallPresence None = Unit {0}
IsSmallPresence (Some shape) = (shape.lines < 2 ^ 32) × (shape.hits ≤ 65536) × (shape.parts ≤ 65536)
