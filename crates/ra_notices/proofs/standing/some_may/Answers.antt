use Rattle.std.proofs.Common.{◌∙◌, ◌||◌, ap, arith}
use Rattle.std.proofs.lemmas.List.{get_or_default}
use Rattle.ra_condition.specs.Contents.{no_condition}
use Rattle.ra_notices.proofs.StandingLemmas.{some_more}
use Rattle.ra_notices.proofs.standing.some_may.Goals as goal

pub loop-condition-preserved : goal.loop-condition-preserved
loop-condition-preserved c =
    let cs = c.args.conditions.now in
    let place = c.loop-condition.condition-index in
    let condition = get_or_default cs place _ no_condition (omega arith) in
    some_more cs place _ c.loop-condition.before c.loop-condition.some _ c.before_next-before.result
    condition c.loop-condition.invariant (ap
    (λ b. c.loop-condition.some || b) c.may_lock_after-some.ensures) c.before_next-before.ensures
