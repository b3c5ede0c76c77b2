-- How the lines of a display are kept and stepped: docs/DEFINITIONS.md, "Presence over frames".
use Rattle.std.specs.Prelude.{◌≡◌, ℕ, ◌<◌, Bool, Option, None, Some, option_map, List, [], ◌∷◌, length, map}
use Rattle.ra_indirect.specs.declared.node.Node.{Node}
use Rattle.ra_memory.specs.Image.{History}
use Rattle.ra_memref.specs.Values.{Start}
use Rattle.ra_memref.specs.Table.{TableSeen}
use Rattle.ra_progress.specs.Contents.{KeptPresence}
use Rattle.ra_richpresence.specs.Contents.{LineContents, ScriptContents}
use Rattle.ra_member.specs.declared.member.Member.{Member}
use Rattle.ra_member.specs.Beside.{AreBeside}
use Rattle.ra_member.specs.Members.{tests_hold, member_next}
use Rattle.ra_member.specs.MemberRuns.{IsMember, kept_by}
use Rattle.ra_member.specs.Runs.{HasValues}
use Rattle.ra_display.specs.declared.presence_run.PresenceRun.{PresenceRun}
use Rattle.ra_meaning.specs.LineMembers.{tests_in, line_member}
use Rattle.ra_meaning.specs.Presence.{DisplayKept, line_holds, kept_display, presence_after}

-- a line of a display with its plans
abbrev pub IsLineRun : List Node → LineContents → Member → Type 0
IsLineRun nodes line run = IsMember nodes (line_member line) run

-- each line with its plans
abbrev pub AreLineRuns : List Node → List LineContents → List Member → Type 0
AreLineRuns nodes lines runs = AreBeside (IsLineRun nodes) lines runs

-- the display of a script with its plans, of which one line is shown
pub record IsPresenceRun (nodes : List Node) (script : ScriptContents) (run : PresenceRun) : Type 0 where
  pub lines : AreLineRuns nodes script.lines run.lines.items
  pub shown : run.shown < length script.lines

-- a display that may be missing, with its plans
abbrev pub IsOptionalPresence : List Node → Option ScriptContents → Option PresenceRun → Type 0
IsOptionalPresence nodes None None = Unit {0}
IsOptionalPresence nodes (Some script) (Some run) = IsPresenceRun nodes script run
IsOptionalPresence nodes _ _ = ⊥

-- what a run of a display keeps
abbrev pub display_kept : PresenceRun → DisplayKept
display_kept run = record { shown = run.shown; lines = map kept_by run.lines.items }

-- what an opening keeps for a display: the shown line, hits and numbers
abbrev pub presence_kept : PresenceRun → KeptPresence
presence_kept run = kept_display (display_kept run)

-- what an opening keeps for a display that may be missing
abbrev pub optional_presence_kept : Option PresenceRun → Option KeptPresence
optional_presence_kept run = option_map presence_kept run

-- One frame of a line, from what it keeps: what it keeps after it, and whether its test holds.
pub record StepsLine (table : TableSeen) (line : LineContents) (old new : Member) (holds : Bool) : Type 0 where
  pub kept : (start : Start) (history : History) → HasValues table start history → kept_by new
      ≡ member_next start (line_member line) history (kept_by old)
  pub truth : (start : Start) (history : History) → HasValues table start history → holds
      ≡ line_holds (tests_hold start (tests_in line.test) history (kept_by old).tests)

-- One frame of a display, from what is kept of it.
abbrev pub StepsPresence : TableSeen → ScriptContents → (old new : KeptPresence) → Type 0
StepsPresence table script old new =
    (start : Start) (image : List ℕ) → HasValues table start (image ∷ []) → new
    ≡ presence_after start script old (image ∷ [])

-- one frame of a display that may be missing
abbrev pub StepsOptional : TableSeen → Option ScriptContents → (old new : Option KeptPresence) → Type 0
StepsOptional table None None None = Unit {0}
StepsOptional table (Some script) (Some old) (Some new) = StepsPresence table script old new
StepsOptional table _ _ _ = ⊥
