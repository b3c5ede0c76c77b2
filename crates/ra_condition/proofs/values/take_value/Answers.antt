use Rattle.std.proofs.Common.{◌≡◌, [], ◌∷◌, ◌++◌, map, refl, codes}
use Rattle.std.proofs.lemmas.List.{map-append}
use Rattle.std.proofs.lemmas.Result.{err_from_is_err_and}
use Rattle.ra_condition.specs.Contents.{part_contents, value_contents}
use Rattle.ra_condition.specs.ReadingValues.{part_at, value_at}
use Rattle.ra_condition.proofs.Faults.{fault-passes}
use Rattle.ra_condition.proofs.ValueReaders.{part-shorter}
use Rattle.ra_text.specs.Table.{only}
use Rattle.ra_text.proofs.Loops.{joined-starts, joined-none, joined-next, joined-smaller}
use Rattle.ra_condition.proofs.values.take_value.Goals as goal

pub returns-in_err-take_part : goal.returns-in_err-take_part
unfolding value_at
returns-in_err-take_part c = let p = err_from_is_err_and c.from_residual.result c.from_residual.ensures.1 in
    rw (p.1, p.2) (fault-passes part_contents value_contents c.in_err-take_part.field-0.0
    c.take_part.new.cursor.rest.now (part_at c.args.cursor.now.rest.now) _
    (joined-none (only (codes "$")) part_at c.args.cursor.now.rest.now
    c.take_part.new.cursor.rest.now) c.in_err-take_part.ensures)

pub others-init : goal.others-init
unfolding value_at
others-init c =
    let items : c.push.new.self.items ≡ c.in_ok-take_part.field-0 ∷ [] =
    cc (c.in_ok-push.ensures.items, c.new-parts.ensures.items) in
    rw items (joined-starts (only (codes "$")) part_at c.args.cursor.now.rest.now (part_contents
    c.in_ok-take_part.field-0) c.take_part.new.cursor.rest.now c.in_ok-take_part.ensures)

pub others-smaller : goal.others-smaller
others-smaller c =
    joined-smaller (only (codes "$")) part_at part-shorter 36 c.skip.new.self.rest.now
    c.others.cursor.rest.now
    (part_contents c.in_ok-take_part-2.field-0) c.take_part-in-others.new.cursor.rest.now
    (c.others-test.ensures.passed refl) c.in_ok-take_part-2.ensures

pub others-preserved : goal.others-preserved
others-preserved c =
    let items : c.push-in-others.new.self.items ≡ c.others.parts.items
    ++ c.in_ok-take_part-2.field-0 ∷ [] = cc (c.in_ok-push-2.ensures.items) in
    rw (items, map-append) (joined-next (only (codes "$")) part_at part-shorter
    (map part_contents c.others.parts.items) 36 tt c.skip.new.self.rest.now c.others.cursor.rest.now
    _ (part_contents c.in_ok-take_part-2.field-0)
    c.take_part-in-others.new.cursor.rest.now refl
    (c.others-test.ensures.passed refl) c.in_ok-take_part-2.ensures c.others.invariant)
