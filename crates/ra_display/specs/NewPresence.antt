-- What a new display leaves in a pool, and what it keeps before the first frame: docs/DEFINITIONS.md, "Openings and
-- snapshots".
use Rattle.std.specs.Prelude.{◌≡◌, Option, option_map, List, map, sum_by}
use Rattle.std.specs.List.{flat_map}
use Rattle.ra_indirect.specs.declared.node.Node.{Node}
use Rattle.ra_richpresence.specs.Contents.{LineContents, ScriptContents}
use Rattle.ra_set.specs.Limits.{line_conditions, script_conditions}
use Rattle.ra_member.specs.declared.member.Member.{Member}
use Rattle.ra_member.specs.Members.{no_member}
use Rattle.ra_member.specs.MemberRuns.{kept_by}
use Rattle.ra_member.specs.Plans.{GrowsWithin}
use Rattle.ra_display.specs.declared.presence_run.PresenceRun.{PresenceRun}
use Rattle.ra_meaning.specs.LineMembers.{line_member, trees_in_line, lines_in, presence_shape}
use Rattle.ra_progress.specs.Contents.{plain_presence}
use Rattle.ra_display.specs.PresenceRuns.{IsLineRun, AreLineRuns, IsOptionalPresence, optional_presence_kept}

-- a line has its plans over the pool, and keeps nothing yet
pub record IsNewLine (old new : List Node) (line : LineContents) (run : Member) : Type 0 where
  pub grows : GrowsWithin old new (trees_in_line line) (line_conditions line)
  pub run_too : IsLineRun new line run
  pub plain : kept_by run ≡ no_member (line_member line)

-- each line has its plans over the pool, and keeps nothing yet
pub record AreNewLines (old new : List Node) (lines : List LineContents) (runs : List Member) : Type 0 where
  pub grows : GrowsWithin old new (flat_map trees_in_line lines) (sum_by line_conditions lines)
  pub runs_too : AreLineRuns new lines runs
  pub plain : map kept_by runs ≡ map no_member (map line_member lines)

-- a display that may be missing has its plans over the pool; it shows its last line, and keeps nothing else yet
pub record IsNewPresence (old new : List Node) (script : Option ScriptContents)
    (run : Option PresenceRun) : Type 0 where
  pub grows : GrowsWithin old new (flat_map trees_in_line (lines_in script)) (script_conditions script)
  pub run_too : IsOptionalPresence new script run
  pub plain : optional_presence_kept run ≡ option_map plain_presence (option_map presence_shape script)
