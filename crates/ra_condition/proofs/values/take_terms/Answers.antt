use Rattle.std.proofs.Common.{◌≡◌, [], ◌∷◌, ◌++◌, refl, codes}
use Rattle.std.proofs.lemmas.Result.{err_from_is_err_and}
use Rattle.ra_condition.specs.ReadingValues.{term_at, terms_at}
use Rattle.ra_condition.proofs.ValueReaders.{term-shorter}
use Rattle.ra_text.specs.Table.{only}
use Rattle.ra_text.proofs.Loops.{joined-starts, joined-none, joined-next, joined-smaller}
use Rattle.ra_condition.proofs.values.take_terms.Goals as goal

pub returns-in_err-take_term : goal.returns-in_err-take_term
unfolding terms_at
returns-in_err-take_term c = let p = err_from_is_err_and c.from_residual.result c.from_residual.ensures.1 in
    rw (p.1, p.2) (joined-none (only (codes "_")) term_at c.args.cursor.now.rest.now
    c.take_term.new.cursor.rest.now c.in_err-take_term.ensures)

pub others-init : goal.others-init
unfolding terms_at
others-init c =
    let items : c.push.new.self.items ≡ c.in_ok-take_term.field-0 ∷ [] =
    cc (c.in_ok-push.ensures.items, c.new-terms.ensures.items) in
    rw items (joined-starts (only (codes "_")) term_at c.args.cursor.now.rest.now
    c.in_ok-take_term.field-0 c.take_term.new.cursor.rest.now c.in_ok-take_term.ensures)

pub others-smaller : goal.others-smaller
others-smaller c =
    joined-smaller (only (codes "_")) term_at term-shorter 95 c.skip.new.self.rest.now
    c.others.cursor.rest.now c.in_ok-take_term-2.field-0 c.take_term-in-others.new.cursor.rest.now
    (c.others-test.ensures.passed refl) c.in_ok-take_term-2.ensures

pub others-preserved : goal.others-preserved
others-preserved c =
    let items : c.push-in-others.new.self.items ≡ c.others.terms.items
    ++ c.in_ok-take_term-2.field-0 ∷ [] = cc (c.in_ok-push-2.ensures.items) in
    rw items (joined-next (only (codes "_")) term_at term-shorter c.others.terms.items 95 tt
    c.skip.new.self.rest.now c.others.cursor.rest.now _ c.in_ok-take_term-2.field-0
    c.take_term-in-others.new.cursor.rest.now refl
    (c.others-test.ensures.passed refl) c.in_ok-take_term-2.ensures c.others.invariant)
