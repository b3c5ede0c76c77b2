use Rattle.ra_member.proofs.LaidLemmas.{order_long, lefts_long, rights_long}
use Rattle.ra_member.proofs.value_run.ValueRun.new.Goals as goal

pub new-requires-clause-order : goal.new-requires-clause-order
new-requires-clause-order c = order_long _ _ _ c.in_ok-plan.ensures.plan.groups _ c.in_ok-ops.ensures

pub new-requires-clause-lefts : goal.new-requires-clause-lefts
new-requires-clause-lefts c = lefts_long _ _ _ c.in_ok-plan.ensures.plan.groups _ c.in_ok-ops.ensures

pub new-requires-clause-rights : goal.new-requires-clause-rights
new-requires-clause-rights c = rights_long _ _ _ c.in_ok-plan.ensures.plan.groups _ c.in_ok-ops.ensures
