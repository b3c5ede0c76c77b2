-- The lines of a display, of which those that rest are not stepped: docs/INTERNALS.md, "Lines at rest".
use Rattle.std.specs.Prelude.{◌≡◌, ℕ, ◌+◌, ◌<◌, Bool, true, Option, None, Some, option_map, List, [], ◌∷◌, length}
use Rattle.std.specs.Prelude.{get_or, set, slice_index_or, slice_set}
use Rattle.ra_indirect.specs.declared.node.Node.{Node}
use Rattle.ra_memref.specs.Table.{TableSeen}
use Rattle.ra_memref.specs.Values.{Start}
use Rattle.ra_richpresence.specs.Contents.{LineContents, ScriptContents, values_in_line}
use Rattle.ra_progress.specs.Contents.{KeptPresence}
use Rattle.ra_member.specs.declared.member.Member.{Member}
use Rattle.ra_member.specs.Members.{MemberKept, member_next, tests_hold}
use Rattle.ra_member.specs.Beside.{AreBeside}
use Rattle.ra_member.specs.MemberRuns.{kept_by}
use Rattle.ra_member.specs.Runs.{HasValues}
use Rattle.ra_schedule.specs.declared.member_counts.MemberCounts.{MemberCounts}
use Rattle.ra_schedule.specs.Counted.{CountsFit, counted_member, owed_member_by}
use Rattle.ra_schedule.specs.Counts.{AreFor, counts_of}
use Rattle.ra_schedule.specs.Inputs.{Instant, MemberSeesSame}
use Rattle.ra_schedule.specs.Owing.{AreHitsSmall, TestsKeep, ValuesKeep}
use Rattle.ra_schedule.specs.Signals.{SignalsSeen}
use Rattle.ra_schedule.specs.Schedules.{AllSteps, AreAtRest, IsHeard, noted_at, owed_at, seen_all}
use Rattle.ra_schedule.specs.Waking.{AreChanged, AreValuesAt, IsMemberTold, first_frame}
use Rattle.ra_display.specs.declared.line_rests.LineRests.{LineRests}
use Rattle.ra_display.specs.declared.presence_run.PresenceRun.{PresenceRun}
use Rattle.ra_meaning.specs.LineMembers.{tests_in, line_member}
use Rattle.ra_meaning.specs.Presence.{DisplayKept, line_holds, kept_display}
use Rattle.ra_display.specs.PresenceRuns.{IsLineRun, IsOptionalPresence, StepsLine, StepsOptional}

-- what a line is seen to keep, where it owes this many frames, or does not rest
abbrev pub seen_line : Member → MemberCounts → Option ℕ → MemberKept
seen_line run c None = kept_by run
seen_line run c (Some frames) = owed_member_by frames (counts_of c) (kept_by run)

-- what lines are seen to keep
abbrev pub seen_lines : List Member → LineRests → List MemberKept
seen_lines runs rests = seen_all seen_line (owed_at rests.schedule) runs rests.each.items

-- what a display is seen to keep
abbrev pub display_seen : PresenceRun → LineRests → DisplayKept
display_seen run rests = record { shown = run.shown; lines = seen_lines run.lines.items rests }

-- what an opening keeps of a display
abbrev pub presence_seen : PresenceRun → LineRests → KeptPresence
presence_seen run rests = kept_display (display_seen run rests)

-- what an opening keeps of a display that may be missing
abbrev pub optional_presence_seen : Option PresenceRun → LineRests → Option KeptPresence
optional_presence_seen run rests = option_map (λ r. presence_seen r rests) run

-- a line keeps all but free hits at a frame
pub record LineKeeps (line : LineContents) (old new : MemberKept) : Type 0 where
  pub tests : TestsKeep (tests_in line.test) old.tests new.tests
  pub values : ValuesKeep (values_in_line line) old.values new.values

-- a line rested at a step: it kept all but free hits, and the bits say which of these counted
pub record LineRested (line : LineContents) (c : MemberCounts) (old new : MemberKept) : Type 0 where
  pub bits : counts_of c ≡ counted_member old new
  pub small : AreHitsSmall old
  pub keeps : LineKeeps line old new

-- While a line sees what it sees at these values, each frame more adds to what it owes, and it holds as it does.
pub record LineGoesOn (nodes : List Node) (values : List ℕ) (line : LineContents) (c : MemberCounts)
    (run : Member) (holds : Bool) : Type 0 where
  pub now : Instant
  pub at : AreValuesAt nodes values now
  pub kept : (start : Start) (image : List ℕ) → MemberSeesSame now (first_frame start image) (line_member line)
      → (n : ℕ) → member_next start (line_member line) (image ∷ []) (owed_member_by n (counts_of c)
      (kept_by run)) ≡ owed_member_by (n + 1) (counts_of c) (kept_by run)
  pub truth : (start : Start) (image : List ℕ) → MemberSeesSame now (first_frame start image) (line_member line)
      → (n : ℕ) → line_holds (tests_hold start (tests_in line.test) (image ∷ [])
      (owed_member_by n (counts_of c) (kept_by run)).tests) ≡ holds

-- there is a bit for each condition of a line
abbrev pub HasLineRoom : LineContents → MemberCounts → Type 0
HasLineRoom line c = AreFor (line_member line) c

-- the same beside each line
abbrev pub HaveLineRooms : List LineContents → List MemberCounts → Type 0
HaveLineRooms lines counts = AreBeside HasLineRoom lines counts

-- the reader at a place is told of all that the line at it sees
abbrev pub AreLinesTold : List Node → List LineContents → SignalsSeen → ℕ → Type 0
AreLinesTold nodes lines s k = (line : LineContents)
    → IsMemberTold nodes s.comparisons s.readers (line_member (get_or lines k line)) k

-- beside each line: it is told of what the line sees, and there is a bit for each of its conditions; where it is not
-- due, it goes on to rest by these values
pub record AreLineRests (nodes : List Node) (values : List ℕ) (lines : List LineContents)
    (runs : List Member) (rests : LineRests) : Type 0 where
  pub many : length rests.each.items ≡ length lines
  pub holds : length rests.holds ≡ length lines
  pub heard : IsHeard nodes values rests.schedule
  pub told_of : (k : ℕ) → k < length lines → (line : LineContents) → IsMemberTold nodes
      rests.schedule.truths.comparisons rests.schedule.readers (line_member (get_or lines k line)) k
  pub room : (k : ℕ) → k < length lines → (line : LineContents) (c : MemberCounts)
      → HasLineRoom (get_or lines k line) (get_or rests.each.items k c)
  pub at_rest : AreAtRest
      (λ k. (line : LineContents) (c : MemberCounts) (run : Member)
      → LineGoesOn nodes values (get_or lines k line) (get_or rests.each.items k c)
      (get_or runs k run) (slice_index_or rests.holds k true))
      (length lines) rests.schedule

-- the rests of the lines of a display that may be missing
abbrev pub AreOptionalRests : List Node → List ℕ → Option ScriptContents → Option PresenceRun → LineRests → Type 0
AreOptionalRests nodes values None None rests = Unit {0}
AreOptionalRests nodes values (Some script) (Some run) rests =
    AreLineRests nodes values script.lines run.lines.items rests
AreOptionalRests nodes values _ _ rests = ⊥

-- the rests before a frame: they were at rest by earlier values, and each node that has another one is listed
pub record WereLineRests (table : TableSeen) (lines : List LineContents) (runs : List Member)
    (rests : LineRests) : Type 0 where
  pub values : List ℕ
  pub are : AreLineRests table.nodes values lines runs rests
  pub changed : AreChanged table values

-- the same of a display that may be missing
abbrev pub WereOptionalRests : TableSeen → Option ScriptContents → Option PresenceRun → LineRests → Type 0
WereOptionalRests table None None rests = Unit {0}
WereOptionalRests table (Some script) (Some run) rests = WereLineRests table script.lines run.lines.items rests
WereOptionalRests table _ _ rests = ⊥

-- One frame of a display that may be missing: it is seen to keep what follows, and each of its lines goes on to rest
-- by the new values.
pub record StepsDisplay (table : TableSeen) (script : Option ScriptContents)
    (old new : Option PresenceRun) (before after : LineRests) : Type 0 where
  pub run : IsOptionalPresence table.nodes script new
  pub rests : AreOptionalRests table.nodes table.values script new after
  pub steps : StepsOptional table script (optional_presence_seen old before) (optional_presence_seen new after)

-- one frame of a line, from what it is seen to keep: what it is seen to keep after it, and whether it holds
pub record StepsLineSeen (table : TableSeen) (line : LineContents) (old new : MemberKept) (holds : Bool) : Type 0 where
  pub kept : (start : Start) (image : List ℕ) → HasValues table start (image ∷ []) → new
      ≡ member_next start (line_member line) (image ∷ []) old
  pub truth : (start : Start) (image : List ℕ) → HasValues table start (image ∷ []) → holds
      ≡ line_holds (tests_hold start (tests_in line.test) (image ∷ []) old.tests)

-- one frame of each line, from what it is seen to keep
abbrev pub AreLinesSeen : TableSeen → List LineContents → (olds news : List MemberKept) → List Bool → Type 0
AreLinesSeen table lines olds news holds = AllSteps (StepsLineSeen table) lines olds news holds

-- a line is stepped with what it owes paid, and it is noted which of its conditions counted where it rests
pub record StepsNoted (table : TableSeen) (line : LineContents) (seen : MemberKept) (rests : Bool)
    (c : MemberCounts) (new : Member) (holds : Bool) : Type 0 where
  pub mid : Member
  pub is : IsLineRun table.nodes line mid
  pub kept : kept_by mid ≡ seen
  pub rested : rests ≡ true → LineRested line c (kept_by mid) (kept_by new)
  pub steps : StepsLine table line mid new holds

-- there is room beside the line at a place
pub record HasLinePlace (lines : List LineContents) (rests : LineRests) (place : ℕ) : Type 0 where
  pub many : length rests.each.items ≡ length lines
  pub due : length rests.schedule.readers.due ≡ length lines
  pub holds : length rests.holds ≡ length lines
  pub rooms : (line : LineContents) (c : MemberCounts)
      → HasLineRoom (get_or lines place line) (get_or rests.each.items place c)

-- the line at a place is stepped, with what it owed; no other line changes
pub record IsLineSteppedAt (table : TableSeen) (lines : List LineContents) (place : ℕ)
    (olds news : List Member) (old new : LineRests) : Type 0 where
  pub run : Member
  pub counts : MemberCounts
  pub rests : Bool
  pub holds : Bool
  pub runs : news ≡ set olds place run
  pub each : new.each.items ≡ set old.each.items place counts
  pub schedule : new.schedule ≡ noted_at place rests old.schedule
  pub known : rests ≡ true → old.schedule.truths.known ≡ true
  pub all : new.holds ≡ slice_set old.holds place holds
  pub is : (line : LineContents) → IsLineRun table.nodes (get_or lines place line) run
  pub room : (line : LineContents) → HasLineRoom (get_or lines place line) counts
  pub steps : (line : LineContents) (r : Member) (c : MemberCounts)
      → StepsNoted table (get_or lines place line) (seen_line (get_or olds place r)
      (get_or old.each.items place c) (owed_at old.schedule place)) rests counts run holds

-- beside each run there is a bit for each of its hits
abbrev pub AreLinesFitting : List Member → List MemberCounts → Type 0
AreLinesFitting [] [] = Unit {0}
AreLinesFitting (run ∷ runs) (c ∷ counts) = CountsFit (counts_of c) (kept_by run) × AreLinesFitting runs counts
AreLinesFitting _ _ = ⊥

-- the same of a display that may be missing
abbrev pub AreOptionalFitting : Option PresenceRun → LineRests → Type 0
AreOptionalFitting None rests = Unit {0}
AreOptionalFitting (Some run) rests = AreLinesFitting run.lines.items rests.each.items
