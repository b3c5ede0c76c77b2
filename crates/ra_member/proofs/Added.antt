-- A member that grows by a test or a value, over a pool that grows by their trees.
use Rattle.std.proofs.Common.{◌≡◌, ◌+◌, List, [], ◌∷◌, ◌++◌, map, sum_by, sym, ◌∙◌, ap, ap₂, subst, arith, append_assoc}
use Rattle.std.specs.List.{flat_map}
use Rattle.std.proofs.lemmas.List.{append-nil, map-append}
use Rattle.std.proofs.lemmas.List.Sums.{sum_by_push}
use Rattle.ra_condition.specs.declared.condition.Condition.{Condition}
use Rattle.ra_condition.specs.Contents.{TriggerContents, groups_of, trigger_hits, PartContents, counted_in}
use Rattle.ra_indirect.specs.declared.node.Node.{Node}
use Rattle.ra_indirect.specs.Trees.{Tree}
use Rattle.ra_indirect.specs.Growing.{IsFront}
use Rattle.ra_indirect.specs.Interned.{IsPool}
use Rattle.ra_chain.specs.Occurrence.{trees_in_trigger, trees_in_value}
use Rattle.ra_set.specs.Limits.{value_conditions}
use Rattle.ra_trigger.specs.Steps.{TriggerKept}
use Rattle.ra_value.specs.Steps.{no_value}
use Rattle.ra_member.specs.declared.laid.Laid.{Laid}
use Rattle.ra_member.specs.declared.member.Member.{Member}
use Rattle.ra_member.specs.declared.trigger_run.TriggerRun.{TriggerRun}
use Rattle.ra_member.specs.declared.value_run.ValueRun.{ValueRun}
use Rattle.ra_member.specs.Beside.{AreBeside}
use Rattle.ra_member.specs.Members.{MemberContents, MemberKept, no_hits, member_conditions}
use Rattle.ra_member.specs.MemberRuns.{IsMember, IsNewMember}
use Rattle.ra_member.specs.Plans.{GrowsWithin}
use Rattle.ra_member.specs.Runs.{IsLaid, IsTriggerRun, IsNewTrigger, IsValueRun, IsNewValue}
use Rattle.ra_member.proofs.GrowthLemmas.{grows_more}
use Rattle.ra_member.proofs.PlanLemmas.{within_none, within_through, within_as, one_more, plan_more, sums_more}
use Rattle.ra_member.proofs.SideBySide.{beside_more, beside_weaker}

-- runs stay what they are where the pool grows
module _ (old new : List Node) (front : IsFront old new) where
  laid_more : (groups : List (List Condition)) (laid : Laid) → IsLaid old groups laid → IsLaid new groups laid
  laid_more groups laid is =
      record {
        plan = plan_more old new groups laid.plan front is.plan;
        ops = is.ops;
        room = is.room;
      }

  pub trigger_more : (t : TriggerContents) (run : TriggerRun) → IsTriggerRun old t run → IsTriggerRun new t run
  trigger_more t run is = record { laid = laid_more (groups_of t) run.laid is.laid; hits = is.hits }

  pub value_more : (parts : List PartContents) (run : ValueRun) → IsValueRun old parts run → IsValueRun new parts run
  value_more parts run is = record {
    laid = laid_more (map counted_in parts) run.laid is.laid;
    nodes_too = sums_more old new parts run.nodes.items front is.nodes_too;
    sums = is.sums;
    hits = is.hits;
    numbers = is.numbers;
  }

  pub member_more : (m : MemberContents) (member : Member) → IsMember old m member → IsMember new m member
  member_more m member is = record {
    tests = beside_weaker (IsTriggerRun old) (IsTriggerRun new) trigger_more m.tests member.tests.items is.tests;
    values = beside_weaker (IsValueRun old) (IsValueRun new) value_more m.values member.values.items is.values;
  }

-- a member without tests and values
pub member_begins : (nodes : List Node) (member : Member) → IsPool nodes → member.tests.items ≡ []
    → member.values.items ≡ [] → IsNewMember nodes nodes (record { tests = []; values = [] }) member
member_begins nodes member pool tests values = record {
  grows = within_none nodes 0 pool;
  member_too = record {
    tests = subst (AreBeside (IsTriggerRun nodes) []) (sym tests) tt;
    values = subst (AreBeside (IsValueRun nodes) []) (sym values) tt;
  };
  plain = (λ i. record {
    tests = map (λ (t : TriggerRun). t.trigger.hits) (tests i);
    values = map (λ (v : ValueRun). v.value) (values i);
  });
}

module _ (first old new : List Node) (before after : Member) where
  -- one test more, before all values
  pub test_added : (t : TriggerContents) (run : TriggerRun) → IsNewTrigger old new t run
      → after.tests.items ≡ before.tests.items ++ run ∷ [] → after.values ≡ before.values
      → (tests : List TriggerContents) → IsNewMember first old
      (record { tests = tests; values = [] }) before
      → IsNewMember first new (record { tests = tests ++ t ∷ []; values = [] }) after
  test_added t run made items same tests is =
      let front : IsFront old new = made.grows.grows.front in
      let alone : GrowsWithin first old (flat_map trees_in_trigger tests) (sum_by trigger_hits tests) =
      within_as first old (flat_map trees_in_trigger tests ++ []) (flat_map trees_in_trigger tests)
      (sum_by trigger_hits tests + 0) (sum_by trigger_hits tests)
      (append-nil (flat_map trees_in_trigger tests)) (omega arith) is.grows in
      let more : GrowsWithin first new (flat_map trees_in_trigger (tests ++ t ∷ []))
      (sum_by trigger_hits (tests ++ t ∷ [])) =
      grows_more trees_in_trigger trigger_hits first old new tests t alone made.grows in
      let row : map (λ (r : TriggerRun). r.trigger.hits) after.tests.items ≡ map no_hits (tests ++ t ∷ []) =
      ap (map (λ (r : TriggerRun). r.trigger.hits)) items
      ∙ map-append (λ (r : TriggerRun). r.trigger.hits) before.tests.items (run ∷ [])
      ∙ ap₂ (λ ks k. ks ++ k ∷ []) (ap (λ (k : MemberKept). k.tests) is.plain)
      (ap (λ (k : TriggerKept). k.hits) made.plain)
      ∙ sym (map-append no_hits tests (t ∷ [])) in
      let values = ap (λ (vs : _). map (λ (v : ValueRun). v.value) vs.items) same
      ∙ ap (λ (k : MemberKept). k.values) is.plain in
      record {
        grows = within_as first new (flat_map trees_in_trigger (tests ++ t ∷ []))
            (flat_map trees_in_trigger (tests ++ t ∷ []) ++ [])
            (sum_by trigger_hits (tests ++ t ∷ [])) (sum_by trigger_hits (tests ++ t ∷ []) + 0)
            (sym (append-nil (flat_map trees_in_trigger (tests ++ t ∷ [])))) (omega arith) more;
        member_too = record {
          tests = subst (AreBeside (IsTriggerRun new) (tests ++ t ∷ [])) (sym items)
              (beside_more (IsTriggerRun new) tests before.tests.items t run
              (member_more old new front _ before is.member_too).tests made.run_too);
          values = subst (λ vs. AreBeside (IsValueRun new) [] vs) (sym (ap (λ vs. vs.items) same))
              (member_more old new front _ before is.member_too).values;
        };
        plain = (λ i. record { tests = row i; values = values i });
      }

  -- one value more, behind all others
  pub value_added : (parts : List PartContents) (run : ValueRun) → IsNewValue old new parts run
      → after.values.items ≡ before.values.items ++ run ∷ [] → after.tests ≡ before.tests
      → (m : MemberContents) → IsNewMember first old m before
      → IsNewMember first new (record m { values = m.values ++ parts ∷ [] }) after
  value_added parts run made items same m is =
      let front : IsFront old new = made.grows.grows.front in
      let tests : List Tree = flat_map trees_in_trigger m.tests in
      let values : List Tree = flat_map trees_in_value m.values in
      let trees : (tests ++ values) ++ trees_in_value parts
      ≡ tests ++ flat_map trees_in_value (m.values ++ parts ∷ []) =
      append_assoc tests values (trees_in_value parts)
      ∙ ap (λ ts. tests ++ ts) (sym (one_more trees_in_value m.values parts)) in
      let count : sum_by value_conditions (m.values ++ parts ∷ []) ≡ sum_by value_conditions
      m.values + value_conditions parts = sum_by_push value_conditions m.values parts in
      let both : GrowsWithin first new ((tests ++ values) ++ trees_in_value parts)
      (member_conditions m + value_conditions parts) =
      within_through first old new (tests ++ values) (trees_in_value parts) (member_conditions m)
      (value_conditions parts) (member_conditions m + value_conditions parts)
      (omega arith) is.grows made.grows in
      let row : map (λ (r : ValueRun). r.value) after.values.items ≡ map no_value (m.values ++ parts ∷ []) =
      ap (map (λ (r : ValueRun). r.value)) items
      ∙ map-append (λ (r : ValueRun). r.value) before.values.items (run ∷ [])
      ∙ ap₂ (λ ks k. ks ++ k ∷ []) (ap (λ (k : MemberKept). k.values) is.plain) made.plain
      ∙ sym (map-append no_value m.values (parts ∷ [])) in
      let kept = ap (λ (ts : _). map (λ (t : TriggerRun). t.trigger.hits) ts.items) same
      ∙ ap (λ (k : MemberKept). k.tests) is.plain in
      record {
        grows = within_as first new ((tests ++ values) ++ trees_in_value parts)
            (tests ++ flat_map trees_in_value (m.values ++ parts ∷ []))
            (member_conditions m + value_conditions parts) (sum_by trigger_hits m.tests
            + sum_by value_conditions (m.values ++ parts ∷ [])) trees (omega (arith, count)) both;
        member_too = record {
          tests = subst (λ ts. AreBeside (IsTriggerRun new) m.tests ts) (sym
              (ap (λ ts. ts.items) same)) (member_more old new front m before is.member_too).tests;
          values = subst (AreBeside (IsValueRun new) (m.values ++ parts ∷ [])) (sym items)
              (beside_more (IsValueRun new) m.values before.values.items parts run
              (member_more old new front m before is.member_too).values made.run_too);
        };
        plain = (λ i. record { tests = kept i; values = row i });
      }
