use Rattle.std.proofs.Common.{refl, inr}
use Rattle.std.proofs.lemmas.Result.{err_from_is_err_and}
use Rattle.ra_set.proofs.ReadLemmas.{took-lines, took-fits, stops-fit, stop-refuses, file-read, repeat-refuses}
use Rattle.ra_set.proofs.ReadLemmas.{script-refuses}
use Rattle.ra_set.proofs.file.read_file.Goals as goal

pub read_behind-requires-clause-within : goal.read_behind-requires-clause-within
read_behind-requires-clause-within c = let l = c.in-Ok.ensures in
    took-fits c.in-Ok.found.has_script c.args.bytes.now c.take_lines.new.cursor.rest.now l.0
    (took-lines c.args.bytes.now c.new-cursor.result.rest.now c.new-cursor.ensures
    c.in-Ok.found.has_script c.take_lines.new.cursor.rest.now l.0 l.1)

pub returns-in_err-distinct-in-Ok-read_behind-clause-err : goal.returns-in_err-distinct-in-Ok-read_behind-clause-err
returns-in_err-distinct-in-Ok-read_behind-clause-err c = let l = c.in-Ok.ensures in
    let p = err_from_is_err_and c.from_residual.result c.from_residual.ensures.1 in
    rw (p.1, p.2) (repeat-refuses c.args.bytes.now c.take_lines.new.cursor.rest.now c.requires
    c.in-Ok.found.has_script l.0
    (took-lines c.args.bytes.now c.new-cursor.result.rest.now c.new-cursor.ensures
    c.in-Ok.found.has_script c.take_lines.new.cursor.rest.now l.0 l.1)
    c.in-Ok-read_behind.script c.in-Ok-read_behind.ensures.ok
    c.in_err-distinct-in-Ok-read_behind.field-0.0
    (c.in_err-distinct-in-Ok-read_behind.ensures.err l.0 l.2))

pub place-requires : goal.place-requires
place-requires c = let e = rw c.in-Err-Stop.field-0-is at c.in-Err-Stop.ensures in
    stops-fit c.args.bytes.now c.new-cursor.result.rest.now c.new-cursor.ensures c.take_lines.new.cursor.rest.now e

pub returns-in_ok-distinct-in-Ok-read_behind-clause-ok : goal.returns-in_ok-distinct-in-Ok-read_behind-clause-ok
returns-in_ok-distinct-in-Ok-read_behind-clause-ok c = let l = c.in-Ok.ensures in
    file-read c.args.bytes.now c.take_lines.new.cursor.rest.now c.requires c.in-Ok.found.has_script l.0
    (took-lines c.args.bytes.now c.new-cursor.result.rest.now c.new-cursor.ensures
    c.in-Ok.found.has_script c.take_lines.new.cursor.rest.now l.0 l.1)
    _ c.in-Ok-read_behind.ensures.ok (c.in_ok-distinct-in-Ok-read_behind.ensures.ok l.0 l.2)

pub returns-in-Err-clause-err : goal.returns-in-Err-clause-err
returns-in-Err-clause-err c = let l = c.in-Ok.ensures in
    script-refuses c.args.bytes.now c.take_lines.new.cursor.rest.now c.requires c.in-Ok.found.has_script l.0
    (took-lines c.args.bytes.now c.new-cursor.result.rest.now c.new-cursor.ensures
    c.in-Ok.found.has_script c.take_lines.new.cursor.rest.now l.0 l.1)
    _ refl c.in-Err.why c.in-Err.ensures.err

pub returns-in-Err-Stop-clause-err : goal.returns-in-Err-Stop-clause-err
returns-in-Err-Stop-clause-err c = let e = rw c.in-Err-Stop.field-0-is at c.in-Err-Stop.ensures in
    inr (stop-refuses c.args.bytes.now c.new-cursor.result.rest.now c.new-cursor.ensures c.requires
    c.take_lines.new.cursor.rest.now e c.place.result c.place.ensures)
