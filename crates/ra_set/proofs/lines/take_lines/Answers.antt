use Rattle.std.proofs.Common.{◌≡◌, Ok, Err, refl, sym, subst}
use Rattle.std.proofs.lemmas.Result.{err_from_is_err_and}
use Rattle.ra_set.specs.Reading.{end_at}
use Rattle.ra_set.proofs.LinesLemmas.{lines-start, lines-fault, lines-end, lines-stop, lines-next, row-smaller}
use Rattle.ra_set.proofs.LinesLemmas.{script-stops, script-opens}
use Rattle.ra_set.proofs.lines.take_lines.Goals as goal

pub lines-init : goal.lines-init
lines-init c = lines-start c.none-kept.result c.args.cursor.now.rest.now c.none-kept.ensures.kept
    c.none-kept.ensures.count

pub returns-in_err-line : goal.returns-in_err-line
returns-in_err-line c = let p = err_from_is_err_and c.from_residual.result c.from_residual.ensures.1 in
    rw (p.1, p.2) (lines-fault c.in_err-line.field-0.0 c.lines.kept c.lines.cursor.rest.now
    c.take_row.new.cursor.rest.now c.args.cursor.now.rest.now
    (sym c.lines-test.ensures) c.in_err-line.ensures c.lines.invariant)

pub returns-in_err-take_end : goal.returns-in_err-take_end
returns-in_err-take_end c = let p = err_from_is_err_and c.from_residual-in_err-take_end.result
    c.from_residual-in_err-take_end.ensures.1 in
    rw (p.1, p.2) (lines-stop c.lines.kept c.add.new.self c.lines.cursor.rest.now
    c.take_row.new.cursor.rest.now c.args.cursor.now.rest.now c.in_ok-line.line
    c.in_ok-line.wants_end
    (sym c.lines-test.ensures) c.in_ok-line.ensures
    (sym c.if-not-skip.ensures.is_next) c.lines.invariant c.skip.new.self.rest.now
    (subst (λ t. end_at c.in_ok-line.wants_end t ≡ Err c.skip.new.self.rest.now)
    (c.if-not-skip.ensures.stayed refl) c.in_err-take_end.ensures))

pub returns-then-not-skip : goal.returns-then-not-skip
returns-then-not-skip c = lines-end c.lines.kept c.add.new.self c.lines.cursor.rest.now
    c.take_row.new.cursor.rest.now c.args.cursor.now.rest.now c.in_ok-line.line
    c.in_ok-line.wants_end
    (sym c.lines-test.ensures) c.in_ok-line.ensures
    (sym c.if-not-skip.ensures.is_next) c.lines.invariant c.skip.new.self.rest.now
    (subst (λ t. end_at c.in_ok-line.wants_end t ≡ Ok (tt, c.skip.new.self.rest.now))
    (c.if-not-skip.ensures.stayed refl) c.in_ok-take_end.ensures) c.in_ok-add.ensures.kept

pub lines-smaller : goal.lines-smaller
lines-smaller c = row-smaller c.lines.cursor.rest.now c.take_row.new.cursor.rest.now
    c.skip.new.self.rest.now _ c.in_ok-line.wants_end c.in_ok-line.ensures
    (c.if-not-skip.ensures.passed refl)

pub lines-preserved : goal.lines-preserved
lines-preserved c = lines-next c.lines.kept c.add.new.self c.lines.cursor.rest.now
    c.take_row.new.cursor.rest.now c.skip.new.self.rest.now c.args.cursor.now.rest.now
    c.in_ok-line.line c.in_ok-line.wants_end
    (sym c.lines-test.ensures) c.in_ok-line.ensures (c.if-not-skip.ensures.passed refl)
    c.in_ok-add.ensures.kept c.in_ok-add.ensures.count c.lines.invariant

pub returns-in_err-take_script_line : goal.returns-in_err-take_script_line
returns-in_err-take_script_line c = let p =
    err_from_is_err_and c.from_residual-in_err-take_script_line.result
    c.from_residual-in_err-take_script_line.ensures.1 in
    rw (p.1, p.2) (script-stops c.lines.kept c.lines.cursor.rest.now c.args.cursor.now.rest.now
    (sym c.lines-test.ensures) c.lines.invariant c.take_script_line.new.cursor.rest.now
    c.in_err-take_script_line.ensures)

pub returns : goal.returns
returns c = script-opens c.lines.kept c.lines.cursor.rest.now c.args.cursor.now.rest.now
    (sym c.lines-test.ensures) c.lines.invariant c.take_script_line.new.cursor.rest.now
    c.in_ok-take_script_line.ensures
