-- The presence after a history: what it keeps has the counts of its script, and it may be cut.
use Rattle.std.proofs.Common.{◌≡◌, List, [], ◌∷◌, ◌++◌, refl, sym, ◌∙◌, ap, subst}
use Rattle.std.specs.List.{flat_map}
use Rattle.std.proofs.lemmas.List.Folds.{flat_map-map}
use Rattle.ra_memory.specs.Image.{History}
use Rattle.ra_chain.specs.Occurrence.{trees_in_trigger, trees_in_value}
use Rattle.ra_memref.specs.Values.{Start}
use Rattle.ra_richpresence.specs.Contents.{ScriptContents}
use Rattle.ra_indirect.specs.Trees.{Tree}
use Rattle.ra_member.specs.Members.{MemberContents, MemberKept, HaveShapes, trees_in_member}
use Rattle.ra_member.proofs.Agreeing.{Agree, agree_front, agree_behind, tests_hold_agree, members_agree}
use Rattle.ra_member.proofs.Folds.{after_keeps}
use Rattle.ra_member.proofs.GoingOn.{GoesOn, fold_goes_on}
use Rattle.ra_member.proofs.Opened.{members_again}
use Rattle.ra_member.proofs.Shaped.{members_fit}
use Rattle.ra_meaning.specs.LineMembers.{line_member, script_members, trees_in_line}
use Rattle.ra_meaning.specs.Presence.{DisplayKept, line_holds, lines_hold, first_true, display_next, display_after}
use Rattle.ra_meaning.specs.Presence.{opened_display, kept_display}

-- what is kept of a display has the counts of its script
abbrev pub DisplayFits : ScriptContents → DisplayKept → Type 0
DisplayFits script kept = HaveShapes (script_members script) kept.lines

pub display_fits : (start : Start) (script : ScriptContents) (opened : DisplayKept) (h : History)
    → DisplayFits script opened → DisplayFits script (display_after start script opened h)
display_fits start script opened h fits =
    after_keeps (λ h k. DisplayFits script k) (display_next start script) (λ image earlier k is.
    members_fit start (script_members script) (image ∷ earlier) k.lines is) opened fits h

-- a display is kept in rows and cut again
pub display_again : (script : ScriptContents) (kept : DisplayKept) → DisplayFits script kept
    → opened_display script (kept_display kept) ≡ kept
display_again script kept fits =
    let lines = members_again (script_members script) kept.lines fits in
    (λ i. record { shown = kept.shown; lines = lines i })

-- a display at two frames at which its trees have one value
module _ (start start' : Start) (h h' : History) where
  holds_agree : (lines : List MemberContents) → Agree start start' h h'
      (flat_map trees_in_member lines) → (kept : List MemberKept) → lines_hold start lines h kept
      ≡ lines_hold start' lines h' kept
  holds_agree [] agree kept = refl
  holds_agree (m ∷ lines) agree [] = refl
  holds_agree (m ∷ lines) agree (k ∷ kept) =
      let here = agree_front start start' h h' (trees_in_member m) (flat_map trees_in_member lines) agree in
      let tests = agree_front start start' h h' (flat_map trees_in_trigger m.tests)
      (flat_map trees_in_value m.values) here in
      let first = ap line_holds (tests_hold_agree start start' h h' m.tests tests k.tests) in
      let rest = holds_agree lines (agree_behind start start' h h' (trees_in_member m)
      (flat_map trees_in_member lines) agree) kept in
      (λ i. first i ∷ rest i)

  display_agrees : (script : ScriptContents) → Agree start start' h h'
      (flat_map trees_in_member (script_members script)) → (kept : DisplayKept)
      → display_next start script h kept ≡ display_next start' script h' kept
  display_agrees script agree kept =
      let truths = holds_agree (script_members script) agree kept.lines in
      let lines = members_agree start start' h h' (script_members script) agree kept.lines in
      (λ i. record { shown = first_true (truths i); lines = lines i })

-- a display after a history that goes on from another, from what is kept of it
pub display_goes_on : (start opened : Start) (earlier : History) (script : ScriptContents)
    → GoesOn start opened earlier (flat_map trees_in_line script.lines) → (k : DisplayKept)
    → DisplayFits script k → (later : History) → display_after start script k (later ++ earlier)
    ≡ display_after opened script
    (opened_display script (kept_display (display_after start script k earlier))) later
display_goes_on start opened earlier script goes k fits later =
    let trees : List Tree = flat_map trees_in_member (script_members script) in
    let same : flat_map trees_in_line script.lines ≡ trees =
    sym (flat_map-map trees_in_member line_member script.lines) in
    fold_goes_on (λ start. display_next start script) trees
    (λ start start' h h' agree kept. display_agrees start start' h h' script agree kept) start
    opened earlier (subst (GoesOn start opened earlier) same goes) k later
    ∙ ap (λ o. display_after opened script o later) (sym (display_again script
    (display_after start script k earlier) (display_fits start script k earlier fits)))
