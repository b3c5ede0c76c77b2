use Rattle.ra_condition.specs.Contents.{group_contents}
use Rattle.ra_member.proofs.PlanLemmas.{plan_one}
use Rattle.ra_member.proofs.planning.group_plan.Goals as goal

pub returns-clause-plan : goal.returns-clause-plan
returns-clause-plan c =
    let e = c.in_ok-plan.ensures in
    plan_one c.elaborate.new.pool (group_contents c.args.group.now) c.in_ok-plan.plan e.order e.pauses e.lefts e.rights
