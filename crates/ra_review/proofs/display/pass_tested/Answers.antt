use Rattle.std.proofs.lemmas.Result.{err_from_is_err_and}
use Rattle.ra_condition.specs.Contents.{trigger_contents}
use Rattle.ra_review.proofs.DisplayLemmas.{after_test, test_fault}
use Rattle.ra_review.proofs.display.pass_tested.Goals as goal

pub returns-in_err-take_test : goal.returns-in_err-take_test
returns-in_err-take_test c = let p = err_from_is_err_and c.from_residual.result c.from_residual.ensures.1 in
    rw (p.1, p.2) (test_fault c.in_err-take_test.field-0.0 c.args.cursor.now.rest.now
    c.take_test.new.cursor.rest.now c.requires c.in_err-take_test.ensures)

pub returns : goal.returns
returns c = after_test c.pass_pieces.result c.args.cursor.now.rest.now
    c.take_test.new.cursor.rest.now c.pass_pieces.new.cursor.rest.now
    (trigger_contents c.in_ok-take_test.field-0) c.requires c.in_ok-take_test.ensures c.pass_pieces.ensures
