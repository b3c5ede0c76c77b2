use Rattle.std.proofs.Common.{Ok, Err}
use Rattle.ra_operand.specs.Grammar.{operand}
use Rattle.ra_operand.specs.Reading.{operand_at}
use Rattle.ra_operand.proofs.Operands.{reads-operand}
use Rattle.ra_text.proofs.Places.{rest_fits, ends_ok, ends_err}
use Rattle.ra_operand.proofs.parse.parse_operand.Goals as goal

pub place-requires : goal.place-requires
place-requires c = rest_fits operand operand_at reads-operand c.args.text.now c.args.at
    c.new-cursor.result.rest.now c.new-cursor.ensures
    (Ok (c.in-Ok.operand, c.take_operand.new.cursor.rest.now)) c.in-Ok.ensures

pub place-requires-in-Err : goal.place-requires-in-Err
place-requires-in-Err c = rest_fits operand operand_at reads-operand c.args.text.now c.args.at
    c.new-cursor.result.rest.now c.new-cursor.ensures
    (Err c.take_operand.new.cursor.rest.now) c.in-Err.ensures

pub returns-in-Ok : goal.returns-in-Ok
returns-in-Ok c = ends_ok operand operand_at reads-operand c.args.text.now c.args.at
    c.new-cursor.result.rest.now c.new-cursor.ensures c.requires c.in-Ok.operand
    c.take_operand.new.cursor.rest.now c.in-Ok.ensures c.place.result c.place.ensures

pub returns-in-Err : goal.returns-in-Err
returns-in-Err c = ends_err operand operand_at reads-operand c.args.text.now c.args.at
    c.new-cursor.result.rest.now c.new-cursor.ensures c.requires c.take_operand.new.cursor.rest.now
    c.in-Err.ensures c.place-in-Err.result c.place-in-Err.ensures
