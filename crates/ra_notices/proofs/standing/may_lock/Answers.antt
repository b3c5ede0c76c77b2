use Rattle.std.proofs.Common.{◌∙◌, ◌∷◌, ◌++◌, [], ap, arith}
use Rattle.std.proofs.lemmas.List.{get_or_default}
use Rattle.ra_condition.specs.Contents.{no_condition}
use Rattle.ra_notices.proofs.StandingLemmas.{may_more}
use Rattle.ra_notices.proofs.standing.may_lock.Goals as goal

pub loop-condition-preserved : goal.loop-condition-preserved
loop-condition-preserved c =
    let cs = c.args.conditions.now in
    let place = c.loop-condition.condition-index in
    let condition = get_or_default cs place _ no_condition (omega arith) in
    may_more cs place _ c.loop-condition.before c.loop-condition.may.items c.push.new.self.items
    c.before_next-before.result
    condition c.loop-condition.invariant (c.in_ok-push.ensures.items ∙ ap (λ b.
    c.loop-condition.may.items ++ b ∷ []) c.may_lock_after.ensures) c.before_next-before.ensures
