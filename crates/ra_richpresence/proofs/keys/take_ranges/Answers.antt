use Rattle.std.proofs.Common.{◌≡◌, [], ◌∷◌, ◌++◌, refl, codes}
use Rattle.std.proofs.lemmas.Result.{err_from_is_err_and}
use Rattle.ra_richpresence.specs.Reading.{range_at, ranges_at}
use Rattle.ra_richpresence.proofs.Parts.{range-shorter}
use Rattle.ra_text.specs.Table.{only}
use Rattle.ra_text.proofs.Loops.{joined-starts, joined-none, joined-next, joined-smaller}
use Rattle.ra_richpresence.proofs.keys.take_ranges.Goals as goal

pub returns-in_err-take_range : goal.returns-in_err-take_range
unfolding ranges_at
returns-in_err-take_range c = let p = err_from_is_err_and c.from_residual-in_err-take_range.result
    c.from_residual-in_err-take_range.ensures.1 in
    rw (p.1, p.2) (joined-none (only (codes ",")) range_at c.args.cursor.now.rest.now
    c.take_range.new.cursor.rest.now c.in_err-take_range.ensures)

pub others-init : goal.others-init
unfolding ranges_at
others-init c =
    let items : c.push.new.self.items ≡ c.in_ok-take_range.field-0 ∷ [] =
    cc (c.in_ok-push.ensures.items, c.in_ok-ranges.ensures.items) in
    rw items (joined-starts (only (codes ",")) range_at c.args.cursor.now.rest.now
    c.in_ok-take_range.field-0 c.take_range.new.cursor.rest.now c.in_ok-take_range.ensures)

pub others-smaller : goal.others-smaller
others-smaller c =
    joined-smaller (only (codes ",")) range_at range-shorter 44 c.skip.new.self.rest.now
    c.others.cursor.rest.now c.in_ok-take_range-2.field-0 c.take_range-in-others.new.cursor.rest.now
    (c.others-test.ensures.passed refl) c.in_ok-take_range-2.ensures

pub others-preserved : goal.others-preserved
others-preserved c =
    let items : c.push-in-others.new.self.items ≡ c.others.ranges.items
    ++ c.in_ok-take_range-2.field-0 ∷ [] = cc (c.in_ok-push-2.ensures.items) in
    rw items (joined-next (only (codes ",")) range_at range-shorter c.others.ranges.items 44 tt
    c.skip.new.self.rest.now c.others.cursor.rest.now _ c.in_ok-take_range-2.field-0
    c.take_range-in-others.new.cursor.rest.now refl
    (c.others-test.ensures.passed refl) c.in_ok-take_range-2.ensures c.others.invariant)
