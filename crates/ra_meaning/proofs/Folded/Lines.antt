-- The recursions over a history are folds of one step a frame.
use Rattle.std.proofs.Common.{◌≡◌, ℕ, Option, None, Some, List, [], ◌∷◌, length, map, zip, refl, sym, ◌∙◌, ap, ap₂}
use Rattle.std.proofs.Common.{arith}
use Rattle.std.specs.List.{concat}
use Rattle.std.proofs.lemmas.List.{append-nil, length-map}
use Rattle.ra_condition.specs.Contents.{TriggerContents, trigger_hits}
use Rattle.ra_memory.specs.Image.{History}
use Rattle.ra_memref.specs.Values.{Start}
use Rattle.ra_value.specs.Steps.{ValueKept}
use Rattle.ra_richpresence.specs.Contents.{LineContents, ScriptContents, values_in_line}
use Rattle.ra_member.specs.Folds.{after}
use Rattle.ra_member.specs.Frames.{achievement_next, test_next, value_next}
use Rattle.ra_member.specs.Members.{MemberContents, MemberKept, HasShape, HaveShapes, tests_next, tests_hold}
use Rattle.ra_member.specs.Members.{values_next, member_next, members_next}
use Rattle.ra_member.proofs.Folds.{after_only, after_part, after_each}
use Rattle.ra_member.proofs.SideBySide.{beside_length, zip_by}
use Rattle.ra_meaning.specs.Order.{tests_in, line_member, script_members}
use Rattle.ra_meaning.specs.FoldLaws.{AreFolds}
use Rattle.ra_meaning.specs.Histories.{achievement_after, test_hits, value_after}
use Rattle.ra_meaning.specs.Presence.{DisplayKept, line_holds, first_true, display_next, display_after}
use Rattle.ra_meaning.specs.PresenceLaws.{kept_line, line_after, line_test_hits, line_truth, shown_line}
use Rattle.ra_meaning.proofs.Folded.Boards.{by_fields}

module _ (start : Start) where
  abbrev tests_fold : List TriggerContents → List (List ℕ) → History → List (List ℕ)
  tests_fold tests hits history = after (λ h. tests_next start tests h) hits history

  value_folds : (parts : List _) (opened : ValueKept) (history : History)
      → value_after start parts opened history ≡ after (value_next start parts) opened history
  value_folds parts opened = after_only (value_next start parts) opened
      (value_after start parts opened) refl (λ image earlier. refl)

  abbrev line_fold : MemberContents → MemberKept → History → MemberKept
  line_fold m opened history = after (λ h. member_next start m h) opened history

  line_tests : (m : MemberContents) (opened : MemberKept) (history : History)
      → (line_fold m opened history).tests ≡ tests_fold m.tests opened.tests history
  line_tests m opened history =
      after_part (λ (k : MemberKept). k.tests) (λ h. member_next start m h)
      (λ h. tests_next start m.tests h) (λ image earlier k. refl) opened history

  -- the one test of a line steps alone
  alone : (t : TriggerContents) (k : List ℕ) (history : History)
      → tests_fold (t ∷ []) (k ∷ []) history ≡ test_hits start t k history ∷ []
  alone t k [] = refl
  alone t k (image ∷ earlier) = ap (tests_next start (t ∷ []) (image ∷ earlier)) (alone t k earlier)

  -- the test of a line, which is one or none
  test_apart : (test : Option TriggerContents) (hits : List (List ℕ)) → length hits
      ≡ length (tests_in test) → (history : History) → line_test_hits start test
      (concat hits) history ≡ concat (tests_fold (tests_in test) hits history)
  test_apart None [] many history = sym (ap concat (nothing history))
    where
      nothing : (history : History) → tests_fold [] [] history ≡ []
      nothing [] = refl
      nothing (image ∷ earlier) = refl
  test_apart None (k ∷ hits) many history = absurd (omega arith)
  test_apart (Some t) [] many history = absurd (omega arith)
  test_apart (Some t) (k ∷ other ∷ hits) many history = absurd (omega arith)
  test_apart (Some t) (k ∷ []) many history =
      ap (λ ks. test_hits start t ks history) (append-nil k)
      ∙ sym (append-nil (test_hits start t k history))
      ∙ sym (ap concat (alone t k history))

  -- and its truth
  truth_apart : (test : Option TriggerContents) (hits : List (List ℕ)) → length hits
      ≡ length (tests_in test) → (image : List ℕ) (earlier : History)
      → line_holds (tests_hold start (tests_in test) (image ∷ earlier) (tests_fold
      (tests_in test) hits earlier)) ≡ line_truth start test (concat hits) (image ∷ earlier)
  truth_apart None hits many image earlier = refl
  truth_apart (Some t) [] many image earlier = absurd (omega arith)
  truth_apart (Some t) (k ∷ other ∷ hits) many image earlier = absurd (omega arith)
  truth_apart (Some t) (k ∷ []) many image earlier =
      ap (λ ks. line_holds (tests_hold start (t ∷ []) (image ∷ earlier) ks)) (alone t k earlier)
      ∙ ap (λ ks. line_truth start (Some t) ks (image ∷ earlier)) (sym (append-nil k))

  tests_many : (line : LineContents) (opened : MemberKept) → HasShape (line_member line) opened
      → length opened.tests ≡ length (tests_in line.test)
  tests_many line opened shape =
      sym (length-map opened.tests length) ∙ ap length shape.tests ∙ length-map (tests_in line.test) trigger_hits

  line_folds : (line : LineContents) (opened : MemberKept) → HasShape (line_member line) opened
      → (history : History) → line_after start history (line, kept_line opened)
      ≡ kept_line (line_fold (line_member line) opened history)
  line_folds line opened shape history =
      let m : MemberContents = line_member line in
      let many : length opened.values ≡ length (values_in_line line) = sym (length-map opened.values
      (λ (v : ValueKept). v.numbers)) ∙ sym (length-map (map (λ (v : ValueKept). v.numbers)
      opened.values) length) ∙ ap length shape.numbers ∙ length-map (values_in_line line) length in
      let values : (line_fold m opened history).values ≡ after (λ h. values_next start m.values h)
      opened.values history = after_part (λ (k : MemberKept). k.values) (λ h. member_next start m h)
      (λ h. values_next start m.values h) (λ image earlier k. refl) opened history in
      let first = test_apart line.test opened.tests (tests_many line opened shape) history
      ∙ ap concat (sym (line_tests m opened history)) in
      let rest = (λ i. map (λ v. value_folds v.0 v.1 history i)
      (zip (values_in_line line) opened.values)) ∙ after_each (λ v. value_next start v)
      (values_in_line line) opened.values many history ∙ sym values in
      (λ i. record { test = first i; values = rest i })

  -- the lines of a display, each by itself
  module _ (script : ScriptContents) (opened : DisplayKept)
      (fits : HaveShapes (script_members script) opened.lines) where
    lines_apart : (history : History) → (display_after start script opened history).lines
        ≡ map (λ p. line_fold (line_member p.0) p.1 history) (zip script.lines opened.lines)
    lines_apart history =
        after_part (λ (k : DisplayKept). k.lines) (display_next start script) (λ h. members_next
        start (script_members script) h) (λ image earlier k. refl) opened history
        ∙ sym (after_each (λ m h. member_next start m h) (script_members script) opened.lines
        (beside_length HasShape (script_members script) opened.lines fits) history)
        ∙ zip_by (λ p. line_fold p.0 p.1 history) line_member script.lines opened.lines

    lines_by : (lines : List LineContents) (kept : List MemberKept) → HaveShapes (map line_member
        lines) kept → (history : History) → map kept_line (map (λ p. line_fold (line_member p.0) p.1
        history) (zip lines kept)) ≡ map (line_after start history) (zip lines (map kept_line kept))
    lines_by [] kept shapes history = refl
    lines_by (line ∷ lines) [] shapes history = refl
    lines_by (line ∷ lines) (k ∷ kept) shapes history =
        ap₂ (λ x xs. x ∷ xs) (sym (line_folds line k shapes.0 history)) (lines_by lines kept shapes.1 history)

    truths_by : (lines : List LineContents) (kept : List MemberKept)
        → HaveShapes (map line_member lines) kept → (image : List ℕ) (earlier : History)
        → map (λ p. line_holds (tests_hold start (tests_in p.0.test) (image ∷ earlier) p.1.tests))
        (zip lines (map (λ p. line_fold (line_member p.0) p.1 earlier) (zip lines kept))) ≡ map
        (λ p. line_truth start p.0.test p.1.test (image ∷ earlier)) (zip lines (map kept_line kept))
    truths_by [] kept shapes image earlier = refl
    truths_by (line ∷ lines) [] shapes image earlier = refl
    truths_by (line ∷ lines) (k ∷ kept) shapes image earlier =
        let here = ap (λ hits. line_holds (tests_hold start (tests_in line.test)
        (image ∷ earlier) hits)) (line_tests (line_member line) k earlier)
        ∙ truth_apart line.test k.tests (tests_many line k shapes.0) image earlier in
        ap₂ (λ b bs. b ∷ bs) here (truths_by lines kept shapes.1 image earlier)

    shown_by : (history : History) → (display_after start script opened history).shown
        ≡ shown_line start script opened.shown (map kept_line opened.lines) history
    shown_by [] = refl
    shown_by (image ∷ earlier) =
        let holds : LineContents × MemberKept → _ =
        λ p. line_holds (tests_hold start (tests_in p.0.test) (image ∷ earlier) p.1.tests) in
        ap first_true (zip_by (λ m. line_holds (tests_hold start m.0.tests (image ∷ earlier)
        m.1.tests)) line_member script.lines (display_after start script opened earlier).lines
        ∙ ap (λ ks. map holds (zip script.lines ks)) (lines_apart earlier)
        ∙ truths_by script.lines opened.lines fits image earlier)

  pub are_folds : AreFolds start
  are_folds = record {
    achievement = λ t opened. after_only (achievement_next start t) opened
        (achievement_after start t opened) refl (λ image earlier. refl);
    test = λ t opened. after_only (test_next start t) opened (test_hits start t opened) refl (λ image earlier. refl);
    value = value_folds;
    board = λ b opened. by_fields start b opened;
    line = line_folds;
    display = λ script opened. record {
      lines = λ fits history. ap (map kept_line) (lines_apart script opened fits history)
          ∙ lines_by script opened fits script.lines opened.lines fits history;
      shown = λ fits. shown_by script opened fits;
    };
  }
