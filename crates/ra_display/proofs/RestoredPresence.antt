-- A display whose numbers are put back or cleared keeps what a file says of it, and stays the display of its script.
use Rattle.std.proofs.Common.{◌≡◌, ℕ, ◌+◌, ◌-◌, ◌*◌, ◌<◌, Option, None, Some, List, length, map, sym, ◌∙◌, ap, arith}
use Rattle.std.specs.List.{concat}
use Rattle.ra_member.specs.Members.{cleared_member, saved_hits, saved_numbers}
use Rattle.ra_member.proofs.Cleared.{all_cleared}
use Rattle.ra_member.specs.MemberRuns.{kept_by}
use Rattle.ra_indirect.specs.declared.node.Node.{Node}
use Rattle.ra_richpresence.specs.Contents.{ScriptContents}
use Rattle.ra_text.specs.Words.{word_at, words_at}
use Rattle.ra_member.proofs.SideBySide.{beside_length}
use Rattle.ra_display.specs.declared.presence_run.PresenceRun.{PresenceRun}
use Rattle.ra_display.specs.PresenceRuns.{IsLineRun, IsPresenceRun, IsOptionalPresence}
use Rattle.ra_display.specs.PresenceBack.{PutsBackDisplay, PutsBackPresence, StayLines, hits_of_lines, numbers_of_lines}
use Rattle.ra_display.specs.PresenceShapes.{presence_run_shape}
use Rattle.ra_display.proofs.DisplayRows.{lines_hits, lines_numbers}

-- a display of which only the shown line and the kept numbers change
display_stays : (old new : PresenceRun) → StayLines old.lines.items new.lines.items
    → new.shown < length old.lines.items → (nodes : List Node) (script : ScriptContents)
    → IsPresenceRun nodes script old → IsPresenceRun nodes script new
display_stays old new stay within nodes script are = record {
  lines = stay nodes script.lines are.lines;
  shown = omega (arith, within, beside_length (IsLineRun nodes) script.lines old.lines.items are.lines);
}

-- a display whose shown line and lines are put back
pub display_back : (bytes : List ℕ) (at hits numbers : ℕ) (old new : PresenceRun) → new.shown
    ≡ word_at bytes at → word_at bytes at < length old.lines.items
    → StayLines old.lines.items new.lines.items
    → hits_of_lines new.lines.items ≡ words_at bytes hits (length (hits_of_lines old.lines.items))
    → numbers_of_lines new.lines.items ≡ words_at bytes numbers (length (numbers_of_lines old.lines.items))
    → hits ≡ at + 4 → numbers ≡ at + 4 + 4 * (presence_run_shape old).hits → PutsBackDisplay bytes (Some at) old new
display_back bytes at hits numbers old new shown within stay all_hits all_numbers is is_too =
    let hit_words : concat (map saved_hits (map kept_by new.lines.items))
    ≡ words_at bytes hits (presence_run_shape old).hits =
    lines_hits new.lines.items ∙ all_hits
    ∙ ap (λ xs. words_at bytes hits (length xs)) (sym (lines_hits old.lines.items)) in
    let number_words : concat (map saved_numbers (map kept_by new.lines.items))
    ≡ words_at bytes numbers (presence_run_shape old).parts =
    lines_numbers new.lines.items ∙ all_numbers
    ∙ ap (λ xs. words_at bytes numbers (length xs)) (sym (lines_numbers old.lines.items)) in
    record {
      kept =
          (λ i. record { shown = shown i; hits = hit_words i; numbers = number_words i })
          ∙ (λ i. record {
            shown = word_at bytes at;
            hits = words_at bytes (is i) (presence_run_shape old).hits;
            numbers = words_at bytes (is_too i) (presence_run_shape old).parts;
          });
      run = display_stays old new stay (omega (arith, shown, within));
    }

-- a display without a block shows its last line, and is cleared
pub display_cleared : (bytes : List ℕ) (old new : PresenceRun) → new.shown ≡ length
    old.lines.items - 1 → 0 < length old.lines.items → StayLines old.lines.items new.lines.items
    → map kept_by new.lines.items ≡ map cleared_member (map kept_by old.lines.items)
    → PutsBackDisplay bytes None old new
display_cleared bytes old new shown some stay kept =
    let zero = all_cleared (map kept_by old.lines.items) in
    let hits = ap (λ ks. concat (map saved_hits ks)) kept ∙ zero.0 in
    let numbers = ap (λ ks. concat (map saved_numbers ks)) kept ∙ zero.1 in
    record {
      kept = (λ i. record { shown = shown i; hits = hits i; numbers = numbers i });
      run = display_stays old new stay (omega (arith, shown, some));
    }
