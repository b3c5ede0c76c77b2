-- What the lines of a display are seen to keep, by what they keep and owe.
use Rattle.std.proofs.Common.{◌≡◌, ℕ, ◌<◌, Option, None, Some, List, [], ◌∷◌, ◌++◌, suc, length, map, get_or, refl, sym}
use Rattle.std.proofs.Common.{◌∙◌, ap, ap₂, arith}
use Rattle.std.specs.List.{flat_map}
use Rattle.ra_indirect.specs.declared.node.Node.{Node}
use Rattle.ra_memory.specs.Image.{History}
use Rattle.ra_memref.specs.Table.{TableSeen}
use Rattle.ra_richpresence.specs.Contents.{LineContents, ScriptContents}
use Rattle.ra_richpresence.specs.Lines.{line_text}
use Rattle.ra_value.specs.Steps.{ValueKept, signed_greatest}
use Rattle.ra_member.specs.declared.member.Member.{Member}
use Rattle.ra_member.specs.Members.{HasShape, HaveShapes}
use Rattle.ra_member.specs.MemberRuns.{kept_by}
use Rattle.ra_member.proofs.Shaped.{member_shape}
use Rattle.ra_schedule.specs.declared.member_counts.MemberCounts.{MemberCounts}
use Rattle.ra_schedule.specs.Counted.{CountsFit, owed_member_by}
use Rattle.ra_schedule.specs.Counts.{counts_of}
use Rattle.ra_schedule.specs.Schedules.{owed_at, seen_all}
use Rattle.ra_schedule.specs.Waking.{AreChanged}
use Rattle.ra_schedule.proofs.MembersRest.Counted.{owed_by_fits, owed_by_numbers}
use Rattle.ra_schedule.proofs.MembersRest.For.{counts_fit}
use Rattle.ra_display.specs.declared.line_rests.LineRests.{LineRests}
use Rattle.ra_display.specs.declared.presence_run.PresenceRun.{PresenceRun}
use Rattle.ra_meaning.specs.LineMembers.{line_member}
use Rattle.ra_display.specs.LineRests.{AreLineRests, AreLinesFitting, AreLinesSeen, AreOptionalFitting}
use Rattle.ra_display.specs.LineRests.{AreOptionalRests, HasLineRoom, WereOptionalRests, display_seen}
use Rattle.ra_display.specs.LineRests.{optional_presence_seen, presence_seen, seen_line, seen_lines}
use Rattle.ra_meaning.specs.Presence.{DisplayKept, display_next, display_text, first_true, kept_display, line_numbers}
use Rattle.ra_display.specs.PresenceRuns.{AreLineRuns, IsLineRun, IsOptionalPresence, IsPresenceRun, StepsPresence}
use Rattle.ra_display.specs.PresenceRuns.{display_kept, optional_presence_kept}
use Rattle.ra_display.proofs.LineSteps.{length_runs}
use Rattle.ra_meaning.proofs.Cuts.Presence.{display_again}
use Rattle.ra_display.proofs.ShownLines.{lines_next}

-- what a line is seen to keep has the counts of its text
seen_shape : (nodes : List Node) (line : LineContents) (run : Member) (c : MemberCounts)
    (owed : Option ℕ) → IsLineRun nodes line run → HasLineRoom line c
    → HasShape (line_member line) (seen_line run c owed)
seen_shape nodes line run c None is room = member_shape nodes (line_member line) run is
seen_shape nodes line run c (Some n) is room =
    let shape = member_shape nodes (line_member line) run is in
    owed_by_fits n (line_member line) (counts_of c) (kept_by run)
    (counts_fit (line_member line) c room (kept_by run) shape) shape

module _ (nodes : List Node) where
  -- what lines are seen to keep has the counts of their texts
  seen_shapes : (owed : ℕ → Option ℕ) (lines : List LineContents) (runs : List Member)
      (counts : List MemberCounts) → AreLineRuns nodes lines runs → length counts ≡ length lines
      → ((k : ℕ) → k < length lines → (line : LineContents) (c : MemberCounts)
      → HasLineRoom (get_or lines k line) (get_or counts k c))
      → HaveShapes (map line_member lines) (seen_all seen_line owed runs counts)
  seen_shapes owed [] [] counts are many rooms = tt
  seen_shapes owed [] (run ∷ runs) counts are many rooms = absurd are
  seen_shapes owed (line ∷ lines) [] counts are many rooms = absurd are
  seen_shapes owed (line ∷ lines) (run ∷ runs) [] are many rooms = absurd (omega (arith, many))
  seen_shapes owed (line ∷ lines) (run ∷ runs) (c ∷ counts) are many rooms = (
    seen_shape nodes line run c (owed 0) are.0 (rooms 0 (omega arith) line c),
    seen_shapes (λ k. owed (suc k)) lines runs counts are.1 (omega (arith, many))
        (λ k within. rooms (suc k) (omega (arith, within))),
  )

  -- and beside each line there is room for what it keeps
  fitting : (lines : List LineContents) (runs : List Member) (counts : List MemberCounts)
      → AreLineRuns nodes lines runs → length counts ≡ length lines
      → ((k : ℕ) → k < length lines → (line : LineContents) (c : MemberCounts)
      → HasLineRoom (get_or lines k line) (get_or counts k c)) → AreLinesFitting runs counts
  fitting [] [] [] are many rooms = tt
  fitting [] [] (c ∷ counts) are many rooms = absurd (omega (arith, many))
  fitting [] (run ∷ runs) counts are many rooms = absurd are
  fitting (line ∷ lines) [] counts are many rooms = absurd are
  fitting (line ∷ lines) (run ∷ runs) [] are many rooms = absurd (omega (arith, many))
  fitting (line ∷ lines) (run ∷ runs) (c ∷ counts) are many rooms = (
    counts_fit (line_member line) c (rooms 0 (omega arith) line c) (kept_by run)
        (member_shape nodes (line_member line) run are.0),
    fitting lines runs counts are.1 (omega (arith, many)) (λ k within. rooms (suc k) (omega (arith, within))),
  )

module _ (nodes : List Node) (values : List ℕ) (lines : List LineContents) (runs : List Member)
    (rests : LineRests) (are : AreLineRuns nodes lines runs)
    (they : AreLineRests nodes values lines runs rests) where
  pub lines_shaped : HaveShapes (map line_member lines) (seen_lines runs rests)
  lines_shaped = seen_shapes nodes (owed_at rests.schedule) lines runs rests.each.items are they.many they.room

  pub lines_fitting : AreLinesFitting runs rests.each.items
  lines_fitting = fitting nodes lines runs rests.each.items are they.many they.room

-- beside a display that may be missing there is room
pub optional_fitting : (nodes : List Node) (values : List ℕ) (script : Option ScriptContents)
    (run : Option PresenceRun) (rests : LineRests) → IsOptionalPresence nodes script run
    → AreOptionalRests nodes values script run rests → AreOptionalFitting run rests
optional_fitting nodes values None None rests is are = tt
optional_fitting nodes values None (Some run) rests is are = absurd is
optional_fitting nodes values (Some script) None rests is are = absurd is
optional_fitting nodes values (Some script) (Some run) rests is are =
    lines_fitting nodes values script.lines run.lines.items rests is.lines are

-- what is owed changes no number of a line
numbers_stay : (run : Member) (c : MemberCounts) (owed : Option ℕ) → CountsFit (counts_of c)
    (kept_by run) → line_numbers (seen_line run c owed) ≡ line_numbers (kept_by run)
numbers_stay run c None fit = refl
numbers_stay run c (Some n) fit =
    by_numbers (owed_member_by n (counts_of c) (kept_by run)).values
    ∙ ap (map signed_greatest) (owed_by_numbers n (counts_of c) (kept_by run) fit)
    ∙ sym (by_numbers (kept_by run).values)
  where
    by_numbers : (vs : List ValueKept) → map (λ (v : ValueKept). signed_greatest v.numbers) vs
        ≡ map signed_greatest (map (λ (v : ValueKept). v.numbers) vs)
    by_numbers [] = refl
    by_numbers (v ∷ vs) = ap (λ xs. signed_greatest v.numbers ∷ xs) (by_numbers vs)

numbers_seen : (owed : ℕ → Option ℕ) (runs : List Member) (counts : List MemberCounts)
    → AreLinesFitting runs counts → flat_map line_numbers (map kept_by runs)
    ≡ flat_map line_numbers (seen_all seen_line owed runs counts)
numbers_seen owed [] [] fit = refl
numbers_seen owed [] (c ∷ counts) fit = absurd fit
numbers_seen owed (run ∷ runs) [] fit = absurd fit
numbers_seen owed (run ∷ runs) (c ∷ counts) fit =
    ap₂ (λ xs ys. xs ++ ys) (sym (numbers_stay run c (owed 0) fit.0))
    (numbers_seen (λ k. owed (suc k)) runs counts fit.1)

-- a display shows what it is seen to keep
pub text_seen : (script : ScriptContents) (run : PresenceRun) (rests : LineRests)
    → AreLinesFitting run.lines.items rests.each.items → display_text script (display_kept run)
    ≡ display_text script (display_seen run rests)
text_seen script run rests fit =
    ap (λ numbers. line_text script run.shown numbers)
    (numbers_seen (owed_at rests.schedule) run.lines.items rests.each.items fit)

-- one frame of a display, by what its lines are seen to keep, and the first that holds
pub presence_stepped : (table : TableSeen) (values : List ℕ) (script : ScriptContents)
    (old new : PresenceRun) (before after : LineRests) → IsPresenceRun table.nodes script old
    → AreLineRests table.nodes values script.lines old.lines.items before
    → AreLinesSeen table script.lines (seen_lines old.lines.items before)
    (seen_lines new.lines.items after) after.holds → new.shown ≡ first_true after.holds
    → StepsPresence table script (presence_seen old before) (presence_seen new after)
presence_stepped table values script old new before after is are seen shown start image has =
    let h : History = image ∷ [] in
    let kept : DisplayKept = display_seen old before in
    let again = display_again script kept
    (lines_shaped table.nodes values script.lines old.lines.items before is.lines are) in
    let next = lines_next table start image has script.lines kept.lines
    (seen_lines new.lines.items after) after.holds seen in
    let first = shown ∙ ap first_true next.1 in
    (λ i. kept_display (record { shown = first i; lines = next.0 i }))
    ∙ ap (λ k. kept_display (display_next start script h k)) (sym again)

-- before a frame: each node with another value than the lines rest by is listed
pub were_rests : (table : TableSeen) (values : List ℕ) (script : Option ScriptContents)
    (run : Option PresenceRun) (rests : LineRests) → AreChanged table values → AreOptionalRests
    table.nodes values script run rests → WereOptionalRests table script run rests
were_rests table values None None rests changed are = tt
were_rests table values None (Some run) rests changed are = absurd are
were_rests table values (Some script) None rests changed are = absurd are
were_rests table values (Some script) (Some run) rests changed are =
    record { values = values; are = are; changed = changed }

-- rests that are given up are those of any lines, and nothing is owed
pub record IsForgotten (old new : LineRests) : Type 0 where
  pub each : (nodes : List Node) (values : List ℕ) (lines : List LineContents)
      (before runs : List Member) → AreLineRests nodes values lines before old
      → AreLineRests nodes values lines runs new
  pub kept : (runs : List Member) → length runs ≡ length old.each.items → seen_lines runs new ≡ map kept_by runs

pub rests_forgotten : (nodes : List Node) (values : List ℕ) (script : Option ScriptContents)
    (before run : Option PresenceRun) (old new : LineRests) → IsOptionalPresence nodes script before
    → IsOptionalPresence nodes script run
    → AreOptionalRests nodes values script before old → IsForgotten old new → AreOptionalRests nodes
    values script run new × (optional_presence_seen run new ≡ optional_presence_kept run)
rests_forgotten nodes values None None None old new was is are gone = (tt, refl)
rests_forgotten nodes values None None (Some run) old new was is are gone = absurd is
rests_forgotten nodes values None (Some before) run old new was is are gone = absurd was
rests_forgotten nodes values (Some script) None run old new was is are gone = absurd was
rests_forgotten nodes values (Some script) (Some before) None old new was is are gone = absurd is
rests_forgotten nodes values (Some script) (Some before) (Some run) old new was is are gone =
    let same = gone.kept run.lines.items (length_runs nodes script.lines run.lines.items is.lines ∙ sym are.many) in (
      gone.each nodes values script.lines before.lines.items run.lines.items are,
      (λ i. Some (kept_display (record { shown = run.shown; lines = same i }))),
    )
