-- The tests and the values of a member, stepped one after the other.
use Rattle.std.proofs.Common.{◌≡◌, ℕ, ◌+◌, Bool, List, [], ◌∷◌, ◌++◌, length, map, take, set, get_or, refl, sym, ◌∙◌}
use Rattle.std.proofs.Common.{ap, ap₂, subst}
use Rattle.ra_condition.specs.Contents.{TriggerContents, PartContents}
use Rattle.ra_memory.specs.Image.{History}
use Rattle.ra_memref.specs.Values.{Start}
use Rattle.ra_memref.specs.Table.{TableSeen}
use Rattle.ra_value.specs.Steps.{ValueKept}
use Rattle.ra_member.specs.declared.member.Member.{Member}
use Rattle.ra_member.specs.declared.trigger_run.TriggerRun.{TriggerRun}
use Rattle.ra_member.specs.declared.value_run.ValueRun.{ValueRun}
use Rattle.ra_member.specs.Beside.{AreBeside}
use Rattle.ra_member.specs.Frames.{test_next, test_holds, value_next}
use Rattle.ra_member.specs.Members.{tests_next, tests_hold, values_next}
use Rattle.ra_member.specs.MemberRuns.{HasTest, HasValue, StepsTestAt, StepsValueAt}
use Rattle.ra_member.specs.Runs.{HasValues, IsTriggerRun, IsValueRun}
use Rattle.ra_member.proofs.SideBySide.{IsWalk, zip_more, walk_begins, walk_within, walk_here, walk_on, walk_keeps}
use Rattle.ra_member.proofs.SideBySide.{walk_kept, walk_many, walk_ends}

-- the hits that a test keeps
abbrev pub hits_of : TriggerRun → List ℕ
hits_of run = run.trigger.hits

-- some tests of a member are stepped, in order, and their truths are known; the others are as they were
pub record AreTestsStepped (table : TableSeen) (done left : List TriggerContents)
    (olds runs : List TriggerRun) (place : ℕ) (truths : List Bool) : Type 0 where
  pub walk : IsWalk (IsTriggerRun table.nodes) done left olds runs place
  pub hits : (start : Start) (history : History) → HasValues table start history → map hits_of
      (take place runs) ≡ tests_next start done history (map hits_of (take place olds))
  pub holds : (start : Start) (history : History) → HasValues table start history → truths
      ≡ tests_hold start done history (map hits_of (take place olds))

-- all tests of a member are stepped, and their truths are known
pub record AreTestsAfter (table : TableSeen) (tests : List TriggerContents)
    (olds runs : List TriggerRun) (truths : List Bool) : Type 0 where
  pub runs_too : AreBeside (IsTriggerRun table.nodes) tests runs
  pub hits : (start : Start) (history : History) → HasValues table start history → map hits_of runs
      ≡ tests_next start tests history (map hits_of olds)
  pub holds : (start : Start) (history : History) → HasValues table start history → truths
      ≡ tests_hold start tests history (map hits_of olds)

module _ (table : TableSeen) (olds : List TriggerRun) where
  pub tests_begin : (tests : List TriggerContents) → AreBeside (IsTriggerRun table.nodes) tests olds
      → AreTestsStepped table [] tests olds olds 0 []
  tests_begin tests are = record {
    walk = walk_begins (IsTriggerRun table.nodes) tests olds are;
    hits = λ start history has. refl;
    holds = λ start history has. refl;
  }

  pub test_here : (done left : List TriggerContents) (t : TriggerContents) (member : Member)
      (place : ℕ) (truths : List Bool) → AreTestsStepped table done
      (t ∷ left) olds member.tests.items place truths → HasTest table.nodes t place member
  test_here done left t member place truths far = record {
    within = walk_within (IsTriggerRun table.nodes) done left t olds member.tests.items place far.walk;
    run = λ d. walk_here (IsTriggerRun table.nodes) done left t olds member.tests.items place d far.walk;
  }

  -- the test at the place is stepped
  pub test_on : (done left : List TriggerContents) (t : TriggerContents) (member new : Member)
      (place : ℕ) (truths : List Bool) (holds : Bool) → AreTestsStepped table done (t ∷ left) olds
      member.tests.items place truths → StepsTestAt table t place member new holds → AreTestsStepped
      table (done ++ t ∷ []) left olds new.tests.items (place + 1) (truths ++ holds ∷ [])
  test_on done left t member new place truths holds far steps =
      let has = IsTriggerRun table.nodes in
      let runs = member.tests.items in
      let run = steps.run in
      let here = get_or runs place run in
      let olds_more : map hits_of (take (place + 1) olds) ≡ map hits_of (take place olds)
      ++ hits_of here ∷ [] = walk_kept has done left t olds runs place run far.walk hits_of in
      let many : length (map hits_of (take place olds)) ≡ length done =
      walk_many has done left t olds runs place run far.walk hits_of in
      let walk : IsWalk has (done ++ t ∷ []) left olds (set runs place run) (place + 1) =
      walk_on has done left t olds runs place run far.walk run steps.is in
      let hits : (start : Start) (history : History) → HasValues table start history
      → map hits_of (take (place + 1) (set runs place run)) ≡ tests_next start
      (done ++ t ∷ []) history (map hits_of (take (place + 1) olds)) = λ start history values.
      walk_keeps has done left t olds runs place run far.walk hits_of (λ p. test_next start p.0
      history p.1) run ((steps.steps run).hits start history values)
      (far.hits start history values) in
      let truth : (start : Start) (history : History) → HasValues table start history
      → truths ++ holds ∷ [] ≡ tests_hold start (done ++ t ∷ []) history
      (map hits_of (take (place + 1) olds)) = λ start history values.
      ap₂ (λ bs b. bs ++ b ∷ []) (far.holds start history values) ((steps.steps run).truth start history values)
      ∙ sym (zip_more (λ p. test_holds start p.0 history p.1) done (map hits_of (take place olds)) t
      (hits_of here) many)
      ∙ ap (tests_hold start (done ++ t ∷ []) history) (sym olds_more) in
      subst (λ (rs : List TriggerRun). AreTestsStepped table (done ++ t ∷ []) left olds rs
      (place + 1) (truths ++ holds ∷ [])) (sym steps.tests)
      (record { walk = walk; hits = hits; holds = truth })

  -- all tests are stepped
  pub tests_end : (done : List TriggerContents) (runs : List TriggerRun) (place : ℕ)
      (truths : List Bool) → AreTestsStepped table done [] olds runs place truths
      → AreTestsAfter table done olds runs truths
  tests_end done runs place truths far =
      let ends = walk_ends (IsTriggerRun table.nodes) done olds runs place far.walk in
      record {
        runs_too = rw ends.0 at far.walk.ran;
        hits = rw (ends.0, ends.1) at far.hits;
        holds = rw ends.1 at far.holds;
      }

-- what a value keeps
abbrev pub value_kept : ValueRun → ValueKept
value_kept run = run.value

-- some values of a member are stepped, in order; the others are as they were
pub record AreValuesStepped (table : TableSeen) (done left : List (List PartContents))
    (olds runs : List ValueRun) (place : ℕ) : Type 0 where
  pub walk : IsWalk (IsValueRun table.nodes) done left olds runs place
  pub kept : (start : Start) (history : History) → HasValues table start history → map value_kept
      (take place runs) ≡ values_next start done history (map value_kept (take place olds))

-- all values of a member are stepped
pub record AreValuesAfter (table : TableSeen) (values : List (List PartContents))
    (olds runs : List ValueRun) : Type 0 where
  pub runs_too : AreBeside (IsValueRun table.nodes) values runs
  pub kept : (start : Start) (history : History) → HasValues table start history
      → map value_kept runs ≡ values_next start values history (map value_kept olds)

module _ (table : TableSeen) (olds : List ValueRun) where
  pub values_begin : (values : List (List PartContents)) → AreBeside
      (IsValueRun table.nodes) values olds → AreValuesStepped table [] values olds olds 0
  values_begin values are = record {
    walk = walk_begins (IsValueRun table.nodes) values olds are;
    kept = λ start history has. refl;
  }

  pub value_here : (done left : List (List PartContents)) (parts : List PartContents)
      (member : Member) (place : ℕ) → AreValuesStepped table done
      (parts ∷ left) olds member.values.items place → HasValue table.nodes parts place member
  value_here done left parts member place far = record {
    within = walk_within (IsValueRun table.nodes) done left parts olds member.values.items place far.walk;
    run = λ d. walk_here (IsValueRun table.nodes) done left parts olds member.values.items place d far.walk;
  }

  -- the value at the place is stepped
  pub value_on : (done left : List (List PartContents)) (parts : List PartContents)
      (member new : Member) (place : ℕ) → AreValuesStepped table done
      (parts ∷ left) olds member.values.items place → StepsValueAt table parts place member new
      → AreValuesStepped table (done ++ parts ∷ []) left olds new.values.items (place + 1)
  value_on done left parts member new place far steps =
      let has = IsValueRun table.nodes in
      let runs = member.values.items in
      let run = steps.run in
      let walk : IsWalk has (done ++ parts ∷ []) left olds (set runs place run) (place + 1) =
      walk_on has done left parts olds runs place run far.walk run steps.is in
      let kept : (start : Start) (history : History) → HasValues table start history
      → map value_kept (take (place + 1) (set runs place run)) ≡ values_next start (done ++ parts
      ∷ []) history (map value_kept (take (place + 1) olds)) = λ start history values.
      walk_keeps has done left parts olds runs place run far.walk value_kept (λ p. value_next start
      p.0 history p.1) run (steps.steps run start history values) (far.kept start history values) in
      subst (λ (rs : List ValueRun). AreValuesStepped table (done ++ parts ∷ []) left olds rs
      (place + 1)) (sym steps.values) (record { walk = walk; kept = kept })

  pub values_end : (done : List (List PartContents)) (runs : List ValueRun) (place : ℕ)
      → AreValuesStepped table done [] olds runs place → AreValuesAfter table done olds runs
  values_end done runs place far =
      let ends = walk_ends (IsValueRun table.nodes) done olds runs place far.walk in
      record {
        runs_too = rw ends.0 at far.walk.ran;
        kept = rw (ends.0, ends.1) at far.kept;
      }
