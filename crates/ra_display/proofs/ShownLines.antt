-- One frame of the lines of a display, and the first line that holds.
use Rattle.std.proofs.Common.{◌≡◌, ℕ, zero, suc, ◌<◌, Bool, true, false, None, Some, List, [], ◌∷◌, ◌++◌, length, map}
use Rattle.std.proofs.Common.{refl, sym, ◌∙◌, ap, ap₂, subst, arith}
use Rattle.ra_condition.specs.Contents.{TriggerContents}
use Rattle.ra_indirect.specs.declared.node.Node.{Node}
use Rattle.ra_memref.specs.Table.{TableSeen}
use Rattle.ra_richpresence.specs.Contents.{LineContents, values_in_line}
use Rattle.ra_richpresence.specs.Spelled.{IsDisplay}
use Rattle.ra_member.specs.declared.member.Member.{Member}
use Rattle.ra_member.specs.declared.trigger_run.TriggerRun.{TriggerRun}
use Rattle.ra_member.specs.declared.value_run.ValueRun.{ValueRun}
use Rattle.ra_member.specs.Beside.{AreBeside}
use Rattle.ra_member.specs.Members.{MemberKept, HaveShapes, tests_next, tests_hold, members_next}
use Rattle.ra_member.specs.MemberRuns.{StepsTestAt, kept_by, StepsValues}
use Rattle.ra_member.specs.Runs.{IsTriggerRun}
use Rattle.ra_member.proofs.Shaped.{member_shape}
use Rattle.ra_member.proofs.Stepping.{hits_of, AreTestsStepped, AreTestsAfter, tests_begin, test_on, tests_end}
use Rattle.ra_meaning.specs.LineMembers.{tests_in, line_member}
use Rattle.ra_meaning.specs.Presence.{line_holds, lines_hold, first_true}
use Rattle.ra_memref.specs.Flags.{IsFirstSet, NoneSet}
use Rattle.ra_memref.specs.Values.{Start}
use Rattle.ra_member.specs.Runs.{HasValues}
use Rattle.ra_display.specs.LineRests.{AreLinesSeen}
use Rattle.ra_display.specs.PresenceRuns.{AreLineRuns, IsLineRun, StepsLine}

-- what runs keep has the counts of their texts
pub lines_fit_runs : (nodes : List Node) (lines : List LineContents) (runs : List Member)
    → AreLineRuns nodes lines runs → HaveShapes (map line_member lines) (map kept_by runs)
lines_fit_runs nodes [] [] are = tt
lines_fit_runs nodes [] (run ∷ runs) are = absurd are
lines_fit_runs nodes (line ∷ lines) [] are = absurd are
lines_fit_runs nodes (line ∷ lines) (run ∷ runs) are =
    (member_shape nodes (line_member line) run are.0, lines_fit_runs nodes lines runs are.1)

-- one frame of a line, by its values and then its test
module _ (table : TableSeen) (line : LineContents) (old mid new : Member) (holds : Bool) (is :
    IsLineRun table.nodes line old) (values : StepsValues table (values_in_line line) old mid) where
  same : mid.tests.items ≡ old.tests.items
  same = ap (λ ts. ts.items) values.tests

  abbrev row : List TriggerRun → List (List ℕ)
  row runs = map hits_of runs

  pub line_tested : (t : TriggerContents) → line.test ≡ Some t → StepsTestAt table t 0 mid new holds
      → StepsLine table line old new holds
  line_tested t some steps =
      let tests : AreBeside (IsTriggerRun table.nodes) (t ∷ []) mid.tests.items = subst
      (λ rs. AreBeside (IsTriggerRun table.nodes) (t ∷ []) rs) (sym same) (rw some at is.tests) in
      let begun : AreTestsStepped table [] (t ∷ []) mid.tests.items mid.tests.items 0 [] =
      tests_begin table mid.tests.items (t ∷ []) tests in
      let after : AreTestsAfter table (t ∷ []) mid.tests.items new.tests.items (holds ∷ []) =
      tests_end table mid.tests.items (t ∷ []) new.tests.items 1 (holds ∷ [])
      (test_on table mid.tests.items [] [] t mid new 0 [] holds begun steps) in
      rw some (record {
        kept = λ start history has.
            let hits = after.hits start history has ∙ ap (λ rs. tests_next start (t ∷ []) history (row rs)) same in
            let kept = ap (λ (vs : _). map (λ (v : ValueRun). v.value) vs.items) steps.values
            ∙ values.kept start history has in
            (λ i. record { tests = hits i; values = kept i });
        truth = λ start history has.
            ap line_holds (after.holds start history has ∙ ap (λ rs. tests_hold start (t ∷ []) history (row rs)) same);
      })

  pub line_untested : line.test ≡ None → new ≡ mid → holds ≡ true → StepsLine table line old new holds
  line_untested none unchanged always =
      let empty : old.tests.items ≡ [] = none_beside (IsTriggerRun table.nodes) old.tests.items (rw none at is.tests) in
      let hits : row new.tests.items ≡ [] = ap (λ (m : Member). row m.tests.items) unchanged
      ∙ ap row same ∙ ap row empty in
      rw none (record {
        kept = λ start history has.
            let kept = ap (λ (m : Member). (kept_by m).values) unchanged ∙ values.kept start history has in
            (λ i. record { tests = hits i; values = kept i });
        truth = λ start history has. always;
      })
    where
      none_beside : {X Y : Type 0} (has : X → Y → Type 0) (ys : List Y) → AreBeside has [] ys → ys ≡ []
      none_beside has [] are = refl
      none_beside has (y ∷ ys) are = absurd are

-- a display whose last line has no test has one that holds
pub first_within : (front : List LineContents) (last : LineContents) (truths : List Bool)
    → last.test ≡ None → AreBeside (λ (line : LineContents) truth. line.test ≡ None → truth ≡ true)
    (front ++ last ∷ []) truths → first_true truths < length (front ++ last ∷ [])
first_within [] last [] untested are = absurd are
first_within [] last (true ∷ truths) untested are = omega arith
first_within [] last (false ∷ truths) untested are = let bad : false ≡ true = are.0 untested in cc
first_within (line ∷ front) last [] untested are = absurd are
first_within (line ∷ front) last (true ∷ truths) untested are = omega arith
first_within (line ∷ front) last (false ∷ truths) untested are =
    omega (arith, first_within front last truths untested are.1)

-- a display has a line that holds
pub first_shown : (lines : List LineContents) (truths : List Bool) → IsDisplay lines
    → AreBeside (λ (line : LineContents) truth. line.test ≡ None → truth ≡ true) lines truths
    → first_true truths < length lines
first_shown lines truths display untested =
    let within : AreBeside (λ (line : LineContents) truth. line.test ≡ None → truth ≡ true)
    (display.front ++ display.last ∷ []) truths = subst (λ ls. AreBeside (λ (line : LineContents)
    truth. line.test ≡ None → truth ≡ true) ls truths) display.parts untested in
    omega (
      arith,
      ap length display.parts,
      first_within display.front display.last truths display.untested.untested within,
    )

-- the first flag that is set is the first that is true
pub first_set : (truths : List Bool) (n : ℕ) → IsFirstSet truths 0 n → n ≡ first_true truths
first_set [] n first = absurd (omega (arith, first.within))
first_set (true ∷ truths) zero first = refl
first_set (true ∷ truths) (suc n) first = let bad : true ≡ false =
    first.none_before 0 (omega arith) (omega arith) in absurd (cc)
first_set (false ∷ truths) zero first = let bad : false ≡ true = first.here in absurd (cc)
first_set (false ∷ truths) (suc n) first =
    ap suc (first_set truths n (record {
      after = omega arith;
      within = omega (arith, first.within);
      here = first.here;
      none_before = λ k late early. first.none_before (suc k) (omega arith) (omega (arith, early));
    }))

-- and where none is, there are as many as that
pub none_set : (truths : List Bool) → NoneSet truths 0 (length truths) → length truths ≡ first_true truths
none_set [] none = refl
none_set (true ∷ truths) none = let bad : true ≡ false = none 0 (omega arith) (omega arith) in absurd (cc)
none_set (false ∷ truths) none =
    ap suc (none_set truths (λ k late early. none (suc k) (omega arith) (omega (arith, early))))

-- what lines are seen to keep after a frame, and which of them hold
pub lines_next : (table : TableSeen) (start : Start) (image : List ℕ)
    → HasValues table start (image ∷ []) → (lines : List LineContents) (olds news : List MemberKept)
    (holds : List Bool) → AreLinesSeen table lines olds news holds
    → (news ≡ members_next start (map line_member lines) (image ∷ []) olds)
    × (holds ≡ lines_hold start (map line_member lines) (image ∷ []) olds)
lines_next table start image has [] [] [] [] are = (refl, refl)
lines_next table start image has [] (old ∷ olds) news holds are = absurd are
lines_next table start image has [] [] (new ∷ news) holds are = absurd are
lines_next table start image has [] [] [] (h ∷ holds) are = absurd are
lines_next table start image has (line ∷ lines) [] news holds are = absurd are
lines_next table start image has (line ∷ lines) (old ∷ olds) [] holds are = absurd are
lines_next table start image has (line ∷ lines) (old ∷ olds) (new ∷ news) [] are = absurd are
lines_next table start image has (line ∷ lines) (old ∷ olds) (new ∷ news) (h ∷ holds) are =
    let rest = lines_next table start image has lines olds news holds are.1 in (
      ap₂ (λ x xs. x ∷ xs) (are.0.kept start image has) rest.0,
      ap₂ (λ x xs. x ∷ xs) (are.0.truth start image has) rest.1,
    )

-- a line without a test holds at each frame
pub untested_hold : (table : TableSeen) (start : Start) (image : List ℕ)
    → HasValues table start (image ∷ []) → (lines : List LineContents) (olds news : List MemberKept)
    (holds : List Bool) → AreLinesSeen table lines olds news holds
    → AreBeside (λ (line : LineContents) truth. line.test ≡ None → truth ≡ true) lines holds
untested_hold table start image has [] [] [] [] are = tt
untested_hold table start image has [] (old ∷ olds) news holds are = absurd are
untested_hold table start image has [] [] (new ∷ news) holds are = absurd are
untested_hold table start image has [] [] [] (h ∷ holds) are = absurd are
untested_hold table start image has (line ∷ lines) [] news holds are = absurd are
untested_hold table start image has (line ∷ lines) (old ∷ olds) [] holds are = absurd are
untested_hold table start image has (line ∷ lines) (old ∷ olds) (new ∷ news) [] are = absurd are
untested_hold table start image has (line ∷ lines) (old ∷ olds) (new ∷ news) (h ∷ holds) are = (
  λ none. are.0.truth start image has
      ∙ ap (λ t. line_holds (tests_hold start (tests_in t) (image ∷ []) old.tests)) none,
  untested_hold table start image has lines olds news holds are.1,
)
