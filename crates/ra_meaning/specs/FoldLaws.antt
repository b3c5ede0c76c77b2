-- What items and lines keep after a history is kept by a fold of one step a frame: docs/DEFINITIONS.md, "After a
-- history".
use Rattle.std.specs.Prelude.{◌≡◌, ℕ, List}
use Rattle.ra_condition.specs.Contents.{TriggerContents, PartContents}
use Rattle.ra_leaderboard.specs.Contents.{BoardContents}
use Rattle.ra_memory.specs.Image.{History}
use Rattle.ra_memref.specs.Values.{Start}
use Rattle.ra_trigger.specs.Steps.{TriggerKept}
use Rattle.ra_value.specs.Steps.{ValueKept}
use Rattle.ra_richpresence.specs.Contents.{LineContents, ScriptContents}
use Rattle.ra_member.specs.Folds.{after}
use Rattle.ra_member.specs.Frames.{achievement_next, test_next, value_next}
use Rattle.ra_member.specs.Members.{MemberKept, HasShape, member_next}
use Rattle.ra_meaning.specs.BoardLaws.{IsByFields}
use Rattle.ra_meaning.specs.Boards.{BoardKept}
use Rattle.ra_meaning.specs.Histories.{achievement_after, test_hits, value_after}
use Rattle.ra_meaning.specs.Order.{line_member}
use Rattle.ra_meaning.specs.Presence.{DisplayKept}
use Rattle.ra_meaning.specs.PresenceLaws.{kept_line, line_after, IsByLines}

-- achievements, triggers without states, values and display lines after a history are what their steps keep, one frame
-- after the other, and so are boards, field by field, and displays, line by line
pub record AreFolds (start : Start) : Type 0 where
  pub achievement : (t : TriggerContents) (opened : TriggerKept) (history : History)
      → achievement_after start t opened history ≡ after (achievement_next start t) opened history
  pub test : (t : TriggerContents) (opened : List ℕ) (history : History)
      → test_hits start t opened history ≡ after (test_next start t) opened history
  pub value : (parts : List PartContents) (opened : ValueKept) (history : History)
      → value_after start parts opened history ≡ after (value_next start parts) opened history
  pub board : (b : BoardContents) (opened : BoardKept) → IsByFields start b opened
  pub line : (line : LineContents) (opened : MemberKept) → HasShape (line_member line) opened
      → (history : History) → line_after start history (line, kept_line opened)
      ≡ kept_line (after (λ h. member_next start (line_member line) h) opened history)
  pub display : (script : ScriptContents) (opened : DisplayKept) → IsByLines start script opened
