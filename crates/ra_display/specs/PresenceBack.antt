-- What a display keeps after the bytes of a progress file are put back: docs/DEFINITIONS.md, "What a runtime keeps".
use Rattle.std.specs.Prelude.{◌≡◌, ℕ, ◌+◌, ◌<◌, ◌≤◌, Option, None, Some, option_map, List, length}
use Rattle.std.specs.List.{flat_map}
use Rattle.ra_indirect.specs.declared.node.Node.{Node}
use Rattle.ra_richpresence.specs.Contents.{LineContents, ScriptContents}
use Rattle.ra_progress.specs.declared.shape.PresenceShape.{PresenceShape}
use Rattle.ra_text.specs.Words.{word_at}
use Rattle.ra_progress.specs.Contents.{OfPresence, plain_presence}
use Rattle.ra_progress.specs.Layout.{block_length}
use Rattle.ra_progress.specs.Saying.{said_or, said_presence}
use Rattle.ra_member.specs.declared.member.Member.{Member}
use Rattle.ra_display.specs.declared.presence_run.PresenceRun.{PresenceRun}
use Rattle.ra_member.specs.Members.{saved_hits, saved_numbers}
use Rattle.ra_member.specs.MemberRuns.{kept_by}
use Rattle.ra_display.specs.PresenceRuns.{AreLineRuns, IsPresenceRun, IsOptionalPresence, presence_kept}
use Rattle.ra_display.specs.PresenceRuns.{optional_presence_kept}
use Rattle.ra_display.specs.PresenceShapes.{presence_run_shape, optional_run_shape}

-- the block at a place lies within bytes that have a version
abbrev pub Holds : List ℕ → (at size : ℕ) → Type 0
Holds bytes at size = (4 < length bytes) × (at + size ≤ length bytes)

-- where there is a block of a display, it lies within the bytes and its first word is the index of a line
abbrev pub HasDisplay : List ℕ → Option ℕ → PresenceShape → Type 0
HasDisplay bytes None shape = 0 < shape.lines
HasDisplay bytes (Some at) shape =
    Holds bytes at (block_length (OfPresence shape)) × (word_at bytes at < shape.lines)

-- the hits that some lines keep, in a row
abbrev pub hits_of_lines : List Member → List ℕ
hits_of_lines lines = flat_map (λ line. saved_hits (kept_by line)) lines

-- the numbers that some lines keep, in a row
abbrev pub numbers_of_lines : List Member → List ℕ
numbers_of_lines lines = flat_map (λ line. saved_numbers (kept_by line)) lines

-- the lines have the plans that they had
abbrev pub StayLines : (olds news : List Member) → Type 0
StayLines olds news =
    (nodes : List Node) (lines : List LineContents) → AreLineRuns nodes lines olds → AreLineRuns nodes lines news

-- a display is what its block says, or plain without one, and stays one with its plans
pub record PutsBackDisplay (bytes : List ℕ) (place : Option ℕ) (old new : PresenceRun) : Type 0 where
  pub kept : presence_kept new ≡ said_or (said_presence bytes (presence_run_shape old))
      (plain_presence (presence_run_shape old)) place
  pub run : (nodes : List Node) (script : ScriptContents) → IsPresenceRun nodes script old
      → IsPresenceRun nodes script new

-- the same of a display that may be missing
pub record PutsBackPresence (bytes : List ℕ) (place : Option ℕ) (old new : Option PresenceRun) : Type 0 where
  pub kept : optional_presence_kept new ≡ option_map
      (λ p. said_or (said_presence bytes p) (plain_presence p) place) (optional_run_shape old)
  pub run : (nodes : List Node) (script : Option ScriptContents)
      → IsOptionalPresence nodes script old → IsOptionalPresence nodes script new
