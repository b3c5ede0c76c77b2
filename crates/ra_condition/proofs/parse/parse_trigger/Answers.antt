use Rattle.std.proofs.lemmas.Result.{err_from_is_err_and}
use Rattle.ra_condition.specs.Contents.{trigger_contents}
use Rattle.ra_condition.specs.Grammar.{trigger}
use Rattle.ra_condition.proofs.Faults.{syntax-weaker}
use Rattle.ra_text.proofs.Places.{outside_of, outside_behind}
use Rattle.ra_condition.proofs.parse.parse_trigger.Goals as goal

pub returns-in_err-trigger-clause-err : goal.returns-in_err-trigger-clause-err
returns-in_err-trigger-clause-err c = let p = err_from_is_err_and c.from_residual.result c.from_residual.ensures.1 in
    rw (p.1, p.2) (syntax-weaker c.in_err-trigger.field-0.0 _ _
    (λ place h. outside_of trigger c.args.text.now place h) c.in_err-trigger.ensures.err)

pub returns-then-at-text-clause-err : goal.returns-then-at-text-clause-err
returns-then-at-text-clause-err c = outside_behind trigger c.args.text.now c.in_ok-trigger.at
    (trigger_contents c.in_ok-trigger.trigger) c.in_ok-trigger.ensures.ok c.if-at-text.true
