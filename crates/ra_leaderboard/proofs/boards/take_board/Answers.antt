use Rattle.std.proofs.Common.{refl}
use Rattle.std.proofs.lemmas.Result.{err_from_is_err_and}
use Rattle.ra_condition.proofs.Faults.{fault-passes}
use Rattle.ra_leaderboard.specs.Contents.{board_contents}
use Rattle.ra_leaderboard.specs.Fields.{field_contents}
use Rattle.ra_leaderboard.specs.Reading.{field_at, is_whole}
use Rattle.ra_leaderboard.specs.Tags.{all_tags}
use Rattle.ra_leaderboard.proofs.BoardLoop.{fields-start, fields-none, fields-next, fields-smaller, fields-end}
use Rattle.ra_leaderboard.proofs.BoardLoop.{fields-stop, not-true}
use Rattle.ra_leaderboard.proofs.boards.take_board.Goals as goal

pub returns-in_err-take_field : goal.returns-in_err-take_field
returns-in_err-take_field c = let p = err_from_is_err_and c.from_residual.result c.from_residual.ensures.1 in
    rw (p.1, p.2) (fault-passes field_contents board_contents c.in_err-take_field.field-0.0
    c.take_field.new.cursor.rest.now (field_at all_tags c.args.cursor.now.rest.now) _
    (fields-none c.args.cursor.now.rest.now c.take_field.new.cursor.rest.now)
    (rw c.all.ensures at c.in_err-take_field.ensures))

pub others-init : goal.others-init
others-init c = rw (c.put.ensures, c.none-fields.ensures)
    (fields-start c.args.cursor.now.rest.now (field_contents c.in_ok-take_field.field-0)
    c.take_field.new.cursor.rest.now (rw c.all.ensures at c.in_ok-take_field.ensures))

pub others-smaller : goal.others-smaller
others-smaller c = fields-smaller c.in-Some.tags c.pass_separator.new.cursor.rest.now
    c.others.cursor.rest.now (field_contents c.in_ok-take_next_field.field-0)
    c.take_next_field.new.cursor.rest.now c.in-Some.ensures.passed c.in_ok-take_next_field.ensures

pub others-preserved : goal.others-preserved
others-preserved c = rw c.put-in-Some.ensures
    (fields-next c.others.fields c.in-Some.tags c.pass_separator.new.cursor.rest.now
    c.others.cursor.rest.now _
    (field_contents c.in_ok-take_next_field.field-0) c.take_next_field.new.cursor.rest.now
    c.in-Some.ensures.passed c.in-Some.ensures.free c.in_ok-take_next_field.ensures c.others.invariant)

pub returns-in_err-board : goal.returns-in_err-board
returns-in_err-board c = let ended = c.in_default.ensures in let p = err_from_is_err_and
    c.from_residual-in_err-board.result c.from_residual-in_err-board.ensures.1 in
    rw (p.1, p.2, ended.stayed) (fields-stop c.others.fields c.others.cursor.rest.now _ ended.ended
    (not-true (is_whole c.others.fields) c.in_err-board.ensures.whole.1) c.others.invariant)

pub returns : goal.returns
returns c = let ended = c.in_default.ensures in
    rw (ended.stayed, c.in_ok-board.ensures.ok) (fields-end c.others.fields c.others.cursor.rest.now
    _ ended.ended (c.in_ok-board.ensures.whole.0 refl) c.others.invariant)
