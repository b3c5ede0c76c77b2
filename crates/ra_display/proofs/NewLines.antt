-- Lines of a display that were never stepped, one after the other over a pool that grows.
use Rattle.std.proofs.Common.{◌≡◌, ◌+◌, ◌-◌, Some, List, [], ◌∷◌, ◌++◌, length, map, sum_by, refl, sym, ◌∙◌, ap, ap₂}
use Rattle.std.proofs.Common.{arith, length-append}
use Rattle.std.specs.List.{filter_map}
use Rattle.std.proofs.lemmas.List.{map-append}
use Rattle.std.proofs.lemmas.List.Sums.{sum_by-cons}
use Rattle.ra_indirect.specs.declared.node.Node.{Node}
use Rattle.ra_indirect.specs.Growing.{IsFront}
use Rattle.ra_richpresence.specs.Contents.{PieceContents, Bytes, Shows, LineContents, ScriptContents, value_in}
use Rattle.ra_richpresence.specs.Spelled.{IsDisplay}
use Rattle.ra_set.specs.Limits.{optional_value, value_conditions, line_conditions}
use Rattle.ra_member.specs.declared.member.Member.{Member}
use Rattle.ra_member.specs.Members.{no_member, member_conditions}
use Rattle.ra_member.specs.MemberRuns.{IsNewMember, kept_by}
use Rattle.ra_member.proofs.Added.{member_more}
use Rattle.ra_member.proofs.Opened.{nones_saved}
use Rattle.ra_member.proofs.GrowthLemmas.{grows_more}
use Rattle.ra_member.proofs.PlanLemmas.{within_as}
use Rattle.ra_member.proofs.SideBySide.{beside_more, beside_weaker}
use Rattle.ra_meaning.proofs.Spelled.Lines.{test_conditions}
use Rattle.ra_display.specs.declared.presence_run.PresenceRun.{PresenceRun}
use Rattle.ra_meaning.specs.LineMembers.{line_member, script_members, trees_in_line}
use Rattle.ra_meaning.specs.Presence.{kept_display}
use Rattle.ra_display.specs.PresenceRuns.{IsLineRun, AreLineRuns}
use Rattle.ra_display.specs.NewPresence.{IsNewLine, AreNewLines, IsNewPresence}

-- lines stay ones where the pool grows
module _ (old new : List Node) (front : IsFront old new) where
  pub line_runs_more : (lines : List LineContents) (runs : List Member) → AreLineRuns old lines runs
      → AreLineRuns new lines runs
  line_runs_more lines runs are =
      beside_weaker (IsLineRun old) (IsLineRun new)
      (λ line run is. member_more old new front (line_member line) run is) lines runs are

-- the conditions of the macros among some pieces
pub macro_conditions : (pieces : List PieceContents) → sum_by value_conditions
    (filter_map value_in pieces) ≡ sum_by (λ p. optional_value (value_in p)) pieces
macro_conditions [] = refl
macro_conditions (Bytes text ∷ pieces) =
    omega (arith, macro_conditions pieces, sum_by-cons (λ p. optional_value (value_in p)) (Bytes text) pieces)
macro_conditions (Shows name parts ∷ pieces) =
    omega (
      arith,
      macro_conditions pieces,
      sum_by-cons value_conditions parts (filter_map value_in pieces),
      sum_by-cons (λ p. optional_value (value_in p)) (Shows name parts) pieces,
    )

-- a line of a test and of values
pub line_made : (a b : List Node) (line : LineContents) (run : Member)
    → IsNewMember a b (line_member line) run → IsNewLine a b line run
line_made a b line run is = record {
  grows = within_as a b (trees_in_line line) (trees_in_line line) (member_conditions (line_member
      line)) (line_conditions line) refl (omega (arith, test_conditions line.test)) is.grows;
  run_too = is.member_too;
  plain = is.plain;
}

-- a line more
pub lines_more : (a b c : List Node) (lines : List LineContents) (runs : List Member)
    (line : LineContents) (run : Member) → AreNewLines a b lines runs → IsNewLine b c line run
    → AreNewLines a c (lines ++ line ∷ []) (runs ++ run ∷ [])
lines_more a b c lines runs line run are is = record {
  grows = grows_more trees_in_line line_conditions a b c lines line are.grows is.grows;
  runs_too = beside_more (IsLineRun c) lines runs line run
      (line_runs_more b c is.grows.grows.front lines runs are.runs_too) is.run_too;
  plain =
      map-append kept_by runs (run ∷ [])
      ∙ ap₂ (λ ks k. ks ++ k ∷ []) are.plain is.plain
      ∙ sym (ap (map no_member) (map-append line_member lines (line ∷ []))
      ∙ map-append no_member (map line_member lines) (line_member line ∷ []));
}

-- a display of lines that were never stepped, which shows the last one
pub presence_made : (a b : List Node) (script : ScriptContents) (run : PresenceRun)
    → AreNewLines a b script.lines run.lines.items → IsDisplay script.lines → run.shown
    ≡ length script.lines - 1 → IsNewPresence a b (Some script) (Some run)
presence_made a b script run are display shown =
    let some : length script.lines ≡ length display.front + 1 =
    ap length display.parts ∙ length-append display.front (display.last ∷ []) in
    let none = nones_saved (script_members script) in
    record {
      grows = are.grows;
      run_too = record { lines = are.runs_too; shown = omega (arith, shown, some) };
      plain = (λ i. Some (kept_display (record { shown = shown i; lines = are.plain i }))) ∙ (λ i.
          Some (record { shown = length script.lines - 1; hits = none.0 i; numbers = none.1 i }));
    }
