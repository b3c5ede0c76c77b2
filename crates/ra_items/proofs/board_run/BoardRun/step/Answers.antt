use Rattle.std.proofs.Common.{sym, ◌∙◌, rules, w32, of_z, to_z}
use Rattle.std.proofs.lemmas.Int.{to_z-of_z}
use Rattle.ra_leaderboard.specs.Contents.{board_contents}
use Rattle.ra_items.specs.declared.board_run.BoardRun.{BoardRun}
use Rattle.ra_items.proofs.BoardLemmas.{start_here, cancel_here, submit_here, tests_stepped, board_stepped}
use Rattle.ra_items.proofs.board_run.BoardRun.step.Goals as goal

pub step_test-start-requires-clause-test : goal.step_test-start-requires-clause-test
step_test-start-requires-clause-test c =
    start_here c.args.table.now (board_contents c.args.text.now) c.args.self.now c.requires.run

pub step_test-cancel-requires-clause-test : goal.step_test-cancel-requires-clause-test
step_test-cancel-requires-clause-test c =
    cancel_here c.args.table.now (board_contents c.args.text.now) c.args.self.now c.requires.run
    c.step_test-start.new.self c.step_test-start.result c.step_test-start.ensures

pub step_test-submit-requires-clause-test : goal.step_test-submit-requires-clause-test
step_test-submit-requires-clause-test c =
    submit_here c.args.table.now (board_contents c.args.text.now) c.args.self.now c.requires.run
    c.step_test-start.new.self c.step_test-start.result c.step_test-start.ensures
    c.step_test-cancel.new.self c.step_test-cancel.result c.step_test-cancel.ensures

pub follow-requires-clause-run : goal.follow-requires-clause-run
follow-requires-clause-run c =
    tests_stepped c.args.table.now (board_contents c.args.text.now) c.args.self.now c.requires.run
    c.step_test-start.new.self c.step_test-start.result c.step_test-start.ensures
    c.step_test-cancel.new.self c.step_test-cancel.result c.step_test-cancel.ensures
    c.step_test-submit.new.self c.step_test-submit.result c.step_test-submit.ensures

pub returns-clause-steps : goal.returns-clause-steps
returns-clause-steps c =
    let new : BoardRun =
    record {
      member = c.follow.new.member;
      board = c.step-self.new.self;
      change = c.step-self.result;
      tracked_before = to_z w32 (of_z w32 c.tracked-self.result);
    } in
    board_stepped c.args.table.now (board_contents c.args.text.now) c.args.self.now c.requires.run
    c.step_test-start.new.self c.step_test-start.result c.step_test-start.ensures
    c.step_test-cancel.new.self c.step_test-cancel.result c.step_test-cancel.ensures
    c.step_test-submit.new.self c.step_test-submit.result c.step_test-submit.ensures
    new (c.step-self.ensures.kept ∙ c.step-self.ensures.after) c.step-self.ensures.before
    (sym c.step-self.ensures.kept) c.follow.ensures.follows
    (to_z-of_z w32 c.tracked-self.result (search rules) ∙ c.tracked-self.ensures)
