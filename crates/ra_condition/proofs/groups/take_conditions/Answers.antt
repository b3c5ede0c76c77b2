use Rattle.std.proofs.Common.{◌≡◌, [], ◌∷◌, ◌++◌, refl, codes}
use Rattle.std.proofs.lemmas.Result.{err_from_is_err_and}
use Rattle.ra_condition.specs.declared.setting.Setting.TheVariants.{InTrigger}
use Rattle.ra_condition.specs.Reading.{condition_at, conditions_at}
use Rattle.ra_condition.proofs.GroupReaders.{condition-shorter}
use Rattle.ra_text.specs.Table.{only}
use Rattle.ra_text.proofs.Loops.{joined-starts, joined-none, joined-next, joined-smaller}
use Rattle.ra_condition.proofs.groups.take_conditions.Goals as goal

pub returns-in_err-take_condition : goal.returns-in_err-take_condition
unfolding conditions_at
returns-in_err-take_condition c = let p = err_from_is_err_and c.from_residual.result c.from_residual.ensures.1 in
    rw (p.1, p.2) (joined-none (only (codes "_")) (condition_at InTrigger)
    c.args.cursor.now.rest.now c.take_condition.new.cursor.rest.now c.in_err-take_condition.ensures)

pub loop-conditions-init : goal.loop-conditions-init
unfolding conditions_at
loop-conditions-init c =
    let items : c.push.new.self.items ≡ c.in_ok-take_condition.field-0 ∷ [] =
    cc (c.in_ok-push.ensures.items, c.new-conditions.ensures.items) in
    rw items (joined-starts (only (codes "_")) (condition_at InTrigger) c.args.cursor.now.rest.now
    c.in_ok-take_condition.field-0 c.take_condition.new.cursor.rest.now
    c.in_ok-take_condition.ensures)

pub loop-conditions-smaller : goal.loop-conditions-smaller
loop-conditions-smaller c =
    joined-smaller (only (codes "_")) (condition_at InTrigger) condition-shorter 95
    c.skip.new.self.rest.now c.loop-conditions.cursor.rest.now c.in_ok-take_condition-2.field-0
    c.take_condition-in-loop-conditions.new.cursor.rest.now
    (c.loop-conditions-test.ensures.passed refl) c.in_ok-take_condition-2.ensures

pub loop-conditions-preserved : goal.loop-conditions-preserved
loop-conditions-preserved c =
    let items : c.push-in-loop-conditions.new.self.items ≡ c.loop-conditions.conditions.items
    ++ c.in_ok-take_condition-2.field-0 ∷ [] = cc (c.in_ok-push-2.ensures.items) in
    rw items (joined-next (only (codes "_")) (condition_at InTrigger) condition-shorter
    c.loop-conditions.conditions.items 95 tt c.skip.new.self.rest.now
    c.loop-conditions.cursor.rest.now _ c.in_ok-take_condition-2.field-0
    c.take_condition-in-loop-conditions.new.cursor.rest.now refl
    (c.loop-conditions-test.ensures.passed refl) c.in_ok-take_condition-2.ensures
    c.loop-conditions.invariant)
