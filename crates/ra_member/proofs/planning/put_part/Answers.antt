use Rattle.std.proofs.Common.{◌≡◌, Some, None, List, [], ◌∷◌, ◌++◌, sym, ◌∙◌, ap, subst}
use Rattle.ra_condition.specs.Contents.{PartContents, Legacy, Grouped, part_contents, group_contents}
use Rattle.ra_member.specs.declared.planning.ValuePlan.{ValuePlan}
use Rattle.ra_member.specs.Laid.{plan_rows}
use Rattle.ra_member.specs.Plans.{IsValuePlan}
use Rattle.ra_member.proofs.PlanLemmas.{part_added, plan_empty, plan_more}
use Rattle.ra_member.proofs.planning.put_part.Goals as goal

pub returns-in_ok-push-in-Terms-2-clause-plan : goal.returns-in_ok-push-in-Terms-2-clause-plan
returns-in_ok-push-in-Terms-2-clause-plan c =
    let old = c.args.pool.now in
    let new = c.elaborate_terms.new.pool in
    let plan = c.args.plan.now in
    let pauses = c.push.new.self in
    let after : ValuePlan =
    record { groups = record plan.groups { pauses = pauses }; sums = c.push-in-Terms.new.self } in
    let e = c.in_ok-sum-in-Terms.ensures in
    let part : part_contents c.args.part.now ≡ Legacy c.deref.result.now =
    ap part_contents c.in-Terms.is ∙ ap Legacy (sym c.deref.ensures.value) in
    subst (λ p. (parts : List PartContents) → IsValuePlan old parts plan
    → IsValuePlan new (parts ++ p ∷ []) after) (sym part)
    (part_added old new (Legacy c.deref.result.now) (Some c.in_ok-sum-in-Terms.sum) plan after
    e.kept.front (λ groups is. plan_empty new groups plan.groups pauses
    c.in_ok-push-in-Terms.ensures.items (plan_more old new groups (plan_rows plan.groups) e.kept.front is))
    (e.ok.spells, tt) c.in_ok-push-in-Terms-2.ensures.items)

pub returns-in_ok-push-in-Conditions-clause-plan : goal.returns-in_ok-push-in-Conditions-clause-plan
returns-in_ok-push-in-Conditions-clause-plan c =
    let old = c.args.pool.now in
    let new = c.put_group.new.pool in
    let plan = c.args.plan.now in
    let after : ValuePlan = record { groups = c.put_group.new.plan; sums = c.push-in-Conditions.new.self } in
    let e = c.in_ok-put_group-in-Conditions.ensures in
    let part : part_contents c.args.part.now ≡ Grouped (group_contents c.in-Conditions.group) =
    ap part_contents c.in-Conditions.is in
    subst (λ p. (parts : List PartContents) → IsValuePlan old parts plan
    → IsValuePlan new (parts ++ p ∷ []) after) (sym part)
    (part_added old new (Grouped (group_contents c.in-Conditions.group)) None plan after
    e.grows.grows.front e.plan tt c.in_ok-push-in-Conditions.ensures.items)
