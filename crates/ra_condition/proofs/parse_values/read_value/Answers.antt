use Rattle.std.proofs.Common.{Ok, Err}
use Rattle.ra_condition.specs.Contents.{value_contents}
use Rattle.ra_condition.specs.Values.{value}
use Rattle.ra_condition.specs.ReadingValues.{value_at}
use Rattle.ra_condition.proofs.ValueReaders.{reads-value}
use Rattle.ra_condition.proofs.Structure.{value-structure}
use Rattle.ra_text.proofs.Places.{rest_fits, ends_ok, ends_err}
use Rattle.ra_condition.proofs.parse_values.read_value.Goals as goal

pub place-requires : goal.place-requires
place-requires c = rest_fits value value_at reads-value c.args.text.now c.args.at
    c.new-cursor.result.rest.now c.new-cursor.ensures
    (Ok (value_contents c.in-Ok.value, c.take_value.new.cursor.rest.now)) c.in-Ok.ensures

pub place-requires-in-Err-Stop : goal.place-requires-in-Err-Stop
place-requires-in-Err-Stop c = let e = rw c.in-Err-Stop.field-0-is at c.in-Err-Stop.ensures in
    rest_fits value value_at reads-value c.args.text.now c.args.at c.new-cursor.result.rest.now
    c.new-cursor.ensures (Err c.take_value.new.cursor.rest.now) e

pub returns-in-Ok-clause-ok : goal.returns-in-Ok-clause-ok
returns-in-Ok-clause-ok c = ends_ok value value_at reads-value c.args.text.now c.args.at
    c.new-cursor.result.rest.now c.new-cursor.ensures c.requires (value_contents c.in-Ok.value)
    c.take_value.new.cursor.rest.now c.in-Ok.ensures c.place.result c.place.ensures

pub returns-in-Err-Stop-clause-err : goal.returns-in-Err-Stop-clause-err
returns-in-Err-Stop-clause-err c = let e = rw c.in-Err-Stop.field-0-is at c.in-Err-Stop.ensures in
    ends_err value value_at reads-value c.args.text.now c.args.at c.new-cursor.result.rest.now
    c.new-cursor.ensures c.requires c.take_value.new.cursor.rest.now e c.place-in-Err-Stop.result
    c.place-in-Err-Stop.ensures

pub returns-in-Ok-clause-structure : goal.returns-in-Ok-clause-structure
returns-in-Ok-clause-structure c = let r = reads-value c.new-cursor.result.rest.now in
    value-structure r.front (value_contents c.in-Ok.value)
    (r.spelled (value_contents c.in-Ok.value) c.take_value.new.cursor.rest.now c.in-Ok.ensures)
