use Rattle.std.proofs.Common.{◌≡◌, map, sym, ◌∙◌, ap}
use Rattle.std.specs.Vec.{with_items}
use Rattle.std.proofs.lemmas.List.{with_items_is}
use Rattle.std.proofs.lemmas.Simd.{map-map}
use Rattle.ra_value.specs.Kept.{cleared}
use Rattle.ra_member.specs.declared.value_run.ValueRun.{ValueRun}
use Rattle.ra_member.specs.MemberRuns.{kept_by}
use Rattle.ra_member.proofs.member.Member.reset_values.Goals as goal

pub returns-clause-kept : goal.returns-clause-kept
returns-clause-kept c =
    let old = c.args.self.now in
    let news = c.reset_each.new.values in
    let same : (with_items old.values news).items ≡ news =
    with_items_is old.values news (c.reset_each.auto.values ∙ c.deref_mut.ensures.len) in
    let row = ap (map (λ (v : ValueRun). v.value)) same ∙ c.reset_each.ensures.kept
    ∙ ap (map (λ (v : ValueRun). cleared v.value)) c.deref_mut.ensures.value
    ∙ sym (map-map cleared (λ (v : ValueRun). v.value) old.values.items) in
    (λ i. record { tests = (kept_by old).tests; values = row i })
