use Rattle.std.proofs.lemmas.Result.{err_from_is_err_and}
use Rattle.ra_condition.specs.Contents.{value_contents}
use Rattle.ra_condition.specs.Values.{value}
use Rattle.ra_condition.proofs.Faults.{syntax-weaker}
use Rattle.ra_text.proofs.Places.{outside_of, outside_behind}
use Rattle.ra_condition.proofs.parse_values.parse_value.Goals as goal

pub returns-in_err-value-clause-err : goal.returns-in_err-value-clause-err
returns-in_err-value-clause-err c = let p = err_from_is_err_and c.from_residual.result c.from_residual.ensures.1 in
    rw (p.1, p.2) (syntax-weaker c.in_err-value.field-0.0 _ _
    (λ place h. outside_of value c.args.text.now place h) c.in_err-value.ensures.err)

pub returns-then-at-text-clause-err : goal.returns-then-at-text-clause-err
returns-then-at-text-clause-err c = outside_behind value c.args.text.now c.in_ok-value.at
    (value_contents c.in_ok-value.value) c.in_ok-value.ensures.ok c.if-at-text.true
