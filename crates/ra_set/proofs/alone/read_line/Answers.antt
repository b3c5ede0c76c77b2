use Rattle.std.proofs.Common.{option_map}
use Rattle.ra_set.specs.Contents.{item_contents}
use Rattle.ra_set.proofs.AloneLemmas.{contains-alone, alone-fits, alone-outside, alone-structure, alone-few}
use Rattle.ra_set.proofs.alone.read_line.Goals as goal

pub place-requires : goal.place-requires
place-requires c = let e = rw c.in-Err-Stop.field-0-is at c.in-Err-Stop.ensures in
    alone-fits c.args.line.now c.new-cursor.result.rest.now c.new-cursor.ensures c.take_alone.new.cursor.rest.now e

pub returns-in-Ok-clause-ok : goal.returns-in-Ok-clause-ok
returns-in-Ok-clause-ok c =
    contains-alone c.args.line.now c.new-cursor.result.rest.now c.new-cursor.ensures
    (option_map item_contents c.in-Ok.item) c.in-Ok.ensures

pub returns-in-Ok-clause-structure : goal.returns-in-Ok-clause-structure
returns-in-Ok-clause-structure c = alone-structure c.args.line.now (option_map item_contents c.in-Ok.item)
    (contains-alone c.args.line.now c.new-cursor.result.rest.now c.new-cursor.ensures
    (option_map item_contents c.in-Ok.item) c.in-Ok.ensures)

pub returns-in-Ok-clause-few : goal.returns-in-Ok-clause-few
returns-in-Ok-clause-few c = alone-few c.args.line.now (option_map item_contents c.in-Ok.item)
    (contains-alone c.args.line.now c.new-cursor.result.rest.now c.new-cursor.ensures
    (option_map item_contents c.in-Ok.item) c.in-Ok.ensures)

pub returns-in-Err-Stop-clause-err : goal.returns-in-Err-Stop-clause-err
returns-in-Err-Stop-clause-err c = let e = rw c.in-Err-Stop.field-0-is at c.in-Err-Stop.ensures in
    alone-outside c.args.line.now c.new-cursor.result.rest.now c.new-cursor.ensures
    c.take_alone.new.cursor.rest.now e c.place.result c.place.ensures
