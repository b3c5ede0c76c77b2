use Rattle.std.proofs.Common.{◌++◌, ◌∙◌, ap}
use Rattle.ra_condition.specs.Contents.{group_contents}
use Rattle.ra_member.proofs.PlanLemmas.{plan_added}
use Rattle.ra_member.proofs.planning.put_group.Goals as goal

pub returns-clause-plan : goal.returns-clause-plan
returns-clause-plan c =
    let e = c.in_ok-added.ensures in
    let old = c.args.plan.now in
    plan_added c.args.pool.now c.elaborate.new.pool e.grows.front
    (group_contents c.args.group.now) old c.in_ok-added.added
    (record {
      order = c.extend_from_slice.new.self;
      pauses = c.extend_from_slice-2.new.self;
      lefts = c.extend_from_slice-3.new.self;
      rights = c.extend_from_slice-4.new.self;
    })
    e.order e.pauses e.lefts e.rights
    (c.in_ok-extend_from_slice.ensures.items ∙ ap (λ xs. old.order.items ++ xs) c.deref.ensures.value)
    (c.in_ok-extend_from_slice-2.ensures.items ∙ ap (λ xs. old.pauses.items ++ xs) c.deref-2.ensures.value)
    (c.in_ok-extend_from_slice-3.ensures.items ∙ ap (λ xs. old.lefts.items ++ xs) c.deref-3.ensures.value)
    (c.in_ok-extend_from_slice-4.ensures.items ∙ ap (λ xs. old.rights.items ++ xs) c.deref-4.ensures.value)
