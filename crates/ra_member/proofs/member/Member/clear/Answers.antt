use Rattle.std.proofs.Common.{◌≡◌, map, sym, ◌∙◌, ap}
use Rattle.std.specs.Vec.{with_items}
use Rattle.std.proofs.lemmas.List.{with_items_is}
use Rattle.std.proofs.lemmas.Simd.{map-map}
use Rattle.ra_trigger.specs.Steps.{cleared as cleared_hits}
use Rattle.ra_value.specs.Kept.{cleared}
use Rattle.ra_member.specs.declared.trigger_run.TriggerRun.{TriggerRun}
use Rattle.ra_member.specs.declared.value_run.ValueRun.{ValueRun}
use Rattle.ra_member.proofs.member.Member.clear.Goals as goal

pub returns-clause-kept : goal.returns-clause-kept
returns-clause-kept c =
    let old = c.args.self.now in
    let tests = c.clear_each.new.tests in
    let values = c.reset_each.new.values in
    let tests_are : (with_items old.tests tests).items ≡ tests =
    with_items_is old.tests tests (c.clear_each.auto.tests ∙ c.deref_mut.ensures.len) in
    let values_are : (with_items old.values values).items ≡ values =
    with_items_is old.values values (c.reset_each.auto.values ∙ c.deref_mut-2.ensures.len) in
    let hits = ap (map (λ (t : TriggerRun). t.trigger.hits)) tests_are ∙ c.clear_each.ensures.kept
    ∙ ap (map (λ (t : TriggerRun). cleared_hits t.trigger.hits)) c.deref_mut.ensures.value
    ∙ sym (map-map cleared_hits (λ (t : TriggerRun). t.trigger.hits) old.tests.items) in
    let row = ap (map (λ (v : ValueRun). v.value)) values_are ∙ c.reset_each.ensures.kept
    ∙ ap (map (λ (v : ValueRun). cleared v.value)) c.deref_mut-2.ensures.value
    ∙ sym (map-map cleared (λ (v : ValueRun). v.value) old.values.items) in
    (λ i. record { tests = hits i; values = row i })
