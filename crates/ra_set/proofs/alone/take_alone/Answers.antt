use Rattle.std.proofs.Common.{option_map, sym}
use Rattle.std.proofs.lemmas.Result.{err_from_is_err_and}
use Rattle.ra_set.specs.Contents.{item_contents}
use Rattle.ra_set.proofs.AloneLemmas.{alone-ends, alone-fault, alone-stops, letter-stops}
use Rattle.ra_set.proofs.alone.take_alone.Goals as goal

pub returns-in_err-take_script_line : goal.returns-in_err-take_script_line
returns-in_err-take_script_line c = let p = err_from_is_err_and c.from_residual.result c.from_residual.ensures.1 in
    rw (p.1, p.2) (letter-stops c.args.cursor.now.rest.now c.take_script_line.new.cursor.rest.now
    (sym c.if-is_at.ensures) c.in_err-take_script_line.ensures)

pub returns-in_err-item : goal.returns-in_err-item
returns-in_err-item c = let p =
    err_from_is_err_and c.from_residual-in_err-item.result c.from_residual-in_err-item.ensures.1 in
    rw (p.1, p.2) (alone-fault c.in_err-item.field-0.0 c.args.cursor.now.rest.now
    c.take_row.new.cursor.rest.now (sym c.if-is_at.ensures) c.in_err-item.ensures)

pub returns-in-Ok : goal.returns-in-Ok
returns-in-Ok c = alone-ends c.args.cursor.now.rest.now (option_map item_contents c.in_ok-item.item)
    c.in_ok-item.wants_end c.take_row.new.cursor.rest.now c.take_row_end.new.cursor.rest.now
    (sym c.if-is_at.ensures) c.in_ok-item.ensures c.requires.one c.in-Ok.ensures.ok

pub returns-in-Err : goal.returns-in-Err
returns-in-Err c = alone-stops c.args.cursor.now.rest.now (option_map item_contents
    c.in_ok-item.item) c.in_ok-item.wants_end c.take_row.new.cursor.rest.now
    (sym c.if-is_at.ensures) c.in_ok-item.ensures c.in-Err.ensures.err.0
    c.take_row_end.new.cursor.rest.now c.in-Err.ensures.err.1
