-- One frame of a board, by what its tests and its values do one after the other.
use Rattle.std.proofs.Common.{◌≡◌, None, Some, List, [], ◌∷◌, Bool, map, sym, ◌∙◌, ap, subst}
use Rattle.ra_condition.specs.Contents.{PartContents}
use Rattle.ra_memory.specs.Image.{History}
use Rattle.ra_memref.specs.Table.{TableSeen}
use Rattle.ra_leaderboard.specs.Contents.{BoardContents}
use Rattle.ra_leaderboard.specs.States.{state_after}
use Rattle.ra_member.specs.declared.member.Member.{Member}
use Rattle.ra_member.specs.declared.trigger_run.TriggerRun.{TriggerRun}
use Rattle.ra_member.specs.declared.value_run.ValueRun.{ValueRun}
use Rattle.ra_member.specs.Beside.{AreBeside}
use Rattle.ra_member.specs.Members.{MemberContents}
use Rattle.ra_member.specs.MemberRuns.{IsMember, HasTest, HasValue, StepsTestAt, StepsValueAt, StepsValues}
use Rattle.ra_member.specs.Runs.{IsTriggerRun, IsValueRun}
use Rattle.ra_member.proofs.Stepping.{value_kept, AreTestsStepped, AreTestsAfter, AreValuesStepped, tests_begin}
use Rattle.ra_member.proofs.Stepping.{test_here, test_on, tests_end, values_begin, value_here, value_on, values_end}
use Rattle.ra_items.specs.declared.board_run.BoardRun.{BoardRun}
use Rattle.ra_meaning.specs.Order.{board_member, progress_in}
use Rattle.ra_meaning.specs.Boards.{running_values, state_by, tracked_number}
use Rattle.ra_items.specs.BoardRuns.{FollowsValues, StepsBoard, board_kept}

-- the tests of a board, one after the other
module _ (table : TableSeen) (b : BoardContents) (run : BoardRun)
    (is : IsMember table.nodes (board_member b) run.member) where
  abbrev olds : List TriggerRun
  olds = run.member.tests.items

  begun : AreTestsStepped table [] (b.start ∷ b.cancel ∷ b.submit ∷ []) olds olds 0 []
  begun = tests_begin table olds (b.start ∷ b.cancel ∷ b.submit ∷ []) is.tests

  pub start_here : HasTest table.nodes b.start 0 run.member
  start_here = test_here table olds [] (b.cancel ∷ b.submit ∷ []) b.start run.member 0 [] begun

  module _ (first : Member) (start : Bool) (starts : StepsTestAt table b.start 0 run.member first start) where
    one : AreTestsStepped table (b.start ∷ []) (b.cancel ∷ b.submit ∷ []) olds first.tests.items 1 (start ∷ [])
    one = test_on table olds [] (b.cancel ∷ b.submit ∷ []) b.start run.member first 0 [] start begun starts

    pub cancel_here : HasTest table.nodes b.cancel 1 first
    cancel_here = test_here table olds (b.start ∷ []) (b.submit ∷ []) b.cancel first 1 (start ∷ []) one

    module _ (second : Member) (cancel : Bool) (cancels : StepsTestAt table b.cancel 1 first second cancel) where
      two : AreTestsStepped table (b.start ∷ b.cancel ∷ [])
          (b.submit ∷ []) olds second.tests.items 2 (start ∷ cancel ∷ [])
      two = test_on table olds (b.start ∷ []) (b.submit ∷ []) b.cancel first second 1 (start ∷ []) cancel one cancels

      pub submit_here : HasTest table.nodes b.submit 2 second
      submit_here = test_here table olds (b.start ∷ b.cancel ∷ []) [] b.submit second 2 (start ∷ cancel ∷ []) two

      module _ (third : Member) (submit : Bool) (submits : StepsTestAt table b.submit 2 second third submit) where
        all : AreTestsAfter table (b.start ∷ b.cancel ∷ b.submit ∷ []) olds third.tests.items
            (start ∷ cancel ∷ submit ∷ [])
        all =
            tests_end table olds (b.start ∷ b.cancel ∷ b.submit ∷ []) third.tests.items 3 (start ∷ cancel ∷ submit ∷ [])
            (test_on table olds (b.start ∷ b.cancel ∷ []) [] b.submit second third 2
            (start ∷ cancel ∷ []) submit two submits)

        same : third.values ≡ run.member.values
        same = submits.values ∙ cancels.values ∙ starts.values

        pub tests_stepped : IsMember table.nodes (board_member b) third
        tests_stepped = record {
          tests = all.runs_too;
          values = subst (λ vs. AreBeside (IsValueRun table.nodes) (board_member b).values vs)
              (sym (ap (λ vs. vs.items) same)) is.values;
        }

        -- and then the values follow the state
        pub board_stepped : (new : BoardRun) → new.board ≡ state_after run.board start cancel submit
            → new.change.before ≡ run.board → new.change.after ≡ new.board
            → FollowsValues table (board_member b).values new.change.before new.change.after third
            new.member → new.tracked_before ≡ tracked_number (board_kept run)
            → StepsBoard table b run new
        board_stepped new state from to follows tracked = record {
          kept = λ s image has.
              let h : History = image ∷ [] in
              let now = state ∙ ap (state_by run.board) (all.holds s h has) in
              let hits = follows.tests ∙ all.hits s h has in
              let after = to ∙ now in
              let values = follows.kept s h has ∙ (λ i. running_values s (board_member b).values h
              (from i) (after i) (map value_kept (same i).items)) in
              (λ i. record { state = now i; member = record { tests = hits i; values = values i } });
          before = from;
          after = to;
          tracked = tracked;
        }

-- the values of a board, one after the other
module _ (table : TableSeen) (b : BoardContents) (old : Member)
    (are : AreBeside (IsValueRun table.nodes) (board_member b).values old.values.items) where
  abbrev value_olds : List ValueRun
  value_olds = old.values.items

  value_begun : AreValuesStepped table [] (b.value ∷ progress_in b.progress) value_olds value_olds 0
  value_begun = values_begin table value_olds (b.value ∷ progress_in b.progress) are

  pub first_here : HasValue table.nodes b.value 0 old
  first_here = value_here table value_olds [] (progress_in b.progress) b.value old 0 value_begun

  module _ (first : Member) (steps : StepsValueAt table b.value 0 old first) where
    first_stepped : AreValuesStepped table (b.value ∷ []) (progress_in b.progress) value_olds first.values.items 1
    first_stepped = value_on table value_olds [] (progress_in b.progress) b.value old first 0 value_begun steps

    pub value_alone : b.progress ≡ None → StepsValues table (board_member b).values old first
    value_alone none =
        let far : AreValuesStepped table (b.value ∷ []) [] value_olds first.values.items 1 = rw none at first_stepped in
        let ends = values_end table value_olds (b.value ∷ []) first.values.items 1 far in
        rw none (record { values_too = ends.runs_too; kept = ends.kept; tests = steps.tests })

    module _ (parts : List PartContents) (some : b.progress ≡ Some parts) where
      last_left : AreValuesStepped table (b.value ∷ []) (parts ∷ []) value_olds first.values.items 1
      last_left = rw some at first_stepped

      pub progress_here : HasValue table.nodes parts 1 first
      progress_here = value_here table value_olds (b.value ∷ []) [] parts first 1 last_left

      pub progress_stepped : (second : Member) → StepsValueAt table parts 1 first second
          → StepsValues table (board_member b).values old second
      progress_stepped second more =
          let ends = values_end table value_olds (b.value ∷ parts ∷ []) second.values.items 2
          (value_on table value_olds (b.value ∷ []) [] parts first second 1 last_left more) in
          rw some (record { values_too = ends.runs_too; kept = ends.kept; tests = more.tests ∙ steps.tests })

-- a member whose values are stepped
pub member_stepped : (table : TableSeen) (m : MemberContents) (old new : Member)
    → IsMember table.nodes m old → StepsValues table m.values old new → IsMember table.nodes m new
member_stepped table m old new is steps = record {
  tests = subst (λ ts. AreBeside (IsTriggerRun table.nodes) m.tests ts)
      (sym (ap (λ ts. ts.items) steps.tests)) is.tests;
  values = steps.values_too;
}
