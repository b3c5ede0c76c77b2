use Rattle.std.proofs.Common.{◌≡◌, ◌∙◌, [], ◌∷◌, ◌++◌, refl, codes}
use Rattle.std.proofs.lemmas.Result.{err_from_is_err_and}
use Rattle.ra_condition.specs.declared.setting.Setting.TheVariants.{InValue}
use Rattle.ra_condition.specs.Flags.{is_measured}
use Rattle.ra_condition.specs.Reading.{condition_at}
use Rattle.ra_condition.specs.Values.{measured_by}
use Rattle.ra_condition.proofs.ValueReaders.{vcondition-shorter, measured-starts, measured-none, measured-next}
use Rattle.ra_condition.proofs.ValueReaders.{measured-kept, measured-new}
use Rattle.ra_text.specs.Table.{only}
use Rattle.ra_text.proofs.Loops.{joined-smaller}
use Rattle.ra_condition.proofs.values.take_measured_conditions.Goals as goal
use Rattle.ra_condition.proofs.values.take_measured_conditions.Goals.{then-measured, else-measured}

pub returns-in_err-first : goal.returns-in_err-first
returns-in_err-first c = let p = err_from_is_err_and c.from_residual.result c.from_residual.ensures.1 in
    rw (p.1, p.2) (measured-none c.args.cursor.now.rest.now c.take_flagged.new.cursor.rest.now c.in_err-first.ensures)

pub others-init : goal.others-init
others-init c =
    let items : c.push.new.self.items ≡ c.in_ok-first.first ∷ [] =
    cc (c.in_ok-push.ensures.items, c.new-conditions.ensures.items) in
    rw (items, c.is_measured-measured.ensures) (measured-starts c.args.cursor.now.rest.now
    c.in_ok-first.first c.take_flagged.new.cursor.rest.now c.in_ok-first.ensures)

pub others-smaller : goal.others-smaller
others-smaller c =
    joined-smaller (only (codes "_")) (condition_at InValue) vcondition-shorter 95
    c.skip.new.self.rest.now c.others.cursor.rest.now c.in_ok-next.next
    c.take_condition.new.cursor.rest.now (c.others-test.ensures.passed refl) c.in_ok-next.ensures

pub others-preserved : goal.others-preserved
others-preserved c =
    let items : c.push-in-others.new.self.items
    ≡ c.others.conditions.items ++ c.in_ok-next.next ∷ [] = cc (c.in_ok-push-2.ensures.items) in
    let state : c.if-measured.measured ≡ measured_by c.others.measured c.in_ok-next.next = elim c.if-measured.branch [
      | then-measured w ↦ measured-kept c.if-measured.measured c.others.measured
          (is_measured c.in_ok-next.next.flag) w.measured-is w.if-measured.true
      | else-measured w ↦ measured-new c.if-measured.measured c.others.measured
          (is_measured c.in_ok-next.next.flag) (w.measured-is
          ∙ w.is_measured-measured-else-measured.ensures) w.if-measured.false
    ] in
    rw (items, state) (measured-next c.others.conditions.items c.others.measured
    c.skip.new.self.rest.now c.others.cursor.rest.now _ c.in_ok-next.next
    c.take_condition.new.cursor.rest.now (c.others-test.ensures.passed refl) c.in_ok-next.ensures c.others.invariant)
