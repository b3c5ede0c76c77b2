use Rattle.std.proofs.Common.{◌∙◌, subst}
use Rattle.ra_leaderboard.specs.Contents.{board_contents}
use Rattle.ra_member.specs.Members.{MemberKept}
use Rattle.ra_member.specs.MemberRuns.{kept_by}
use Rattle.ra_member.proofs.Shaped.{member_shape}
use Rattle.ra_schedule.specs.Counts.{Judges}
use Rattle.ra_schedule.proofs.MembersRest.For.{held_again, judged_for, judged_tests, judged_values, may_judge}
use Rattle.ra_meaning.specs.Order.{board_member}
use Rattle.ra_items.proofs.rest.step_board.Goals as goal

pub judge_board-requires : goal.judge_board-requires
judge_board-requires c =
    let m = board_member (board_contents c.args.text.now) in
    let nodes = c.args.table.now.nodes in
    let run = c.args.run.now.member in
    let new = c.step.new.self.member in
    may_judge m c.args.counts.now c.requires.room (kept_by new) (member_shape nodes m new c.step.ensures.run)
    c.note_board-noted.new.self.member (kept_by run) (member_shape nodes m run c.requires.run)
    (c.note_board-noted.ensures c.if-noted.true).member

-- what is judged is what the board kept before its step and after it
judges : (c : goal.After-judge_board) → Judges c.args.counts.now c.judge_board.new.counts
    (kept_by c.args.run.now.member) (kept_by c.step.new.self.member)
    (record { tests = c.judge_board.ensures.tests_told; values = c.judge_board.ensures.values_told })
judges c =
    let m = board_member (board_contents c.args.text.now) in
    let nodes = c.args.table.now.nodes in
    let run = c.args.run.now.member in
    let new = c.step.new.self.member in
    subst (λ (k : MemberKept). Judges c.args.counts.now c.judge_board.new.counts k (kept_by new)
    (record { tests = c.judge_board.ensures.tests_told; values = c.judge_board.ensures.values_told }))
    (held_again m c.args.counts.now c.requires.room (kept_by new) (member_shape nodes m new c.step.ensures.run)
    c.note_board-noted.new.self.member (kept_by run) (member_shape nodes m run c.requires.run)
    (c.note_board-noted.ensures c.if-noted.true).member)
    c.judge_board.ensures.judges

pub returns-then-noted-clause-room : goal.returns-then-noted-clause-room
returns-then-noted-clause-room c =
    let m = board_member (board_contents c.args.text.now) in
    let nodes = c.args.table.now.nodes in
    let run = c.args.run.now.member in
    let new = c.step.new.self.member in
    judged_for m c.args.counts.now c.judge_board.new.counts (kept_by run) (kept_by new) _ c.requires.room
    (member_shape nodes m run c.requires.run) (member_shape nodes m new c.step.ensures.run) (judges c)

pub returns-then-noted-clause-rests : goal.returns-then-noted-clause-rests
returns-then-noted-clause-rests c = λ rested.
    let m = board_member (board_contents c.args.text.now) in
    let nodes = c.args.table.now.nodes in
    let run = c.args.run.now.member in
    let new = c.step.new.self.member in
    let shape = member_shape nodes m run c.requires.run in
    let shape_too = member_shape nodes m new c.step.ensures.run in
    let told = judges c in
    let judged = c.judge_board.ensures in
    let holds = c.note_board-noted.ensures c.if-noted.true in
    record {
      bits = λ i. record { tests = told.tests.bits i; values = told.values.bits i };
      small = holds.member.small;
      rests = record {
        state = judged.state rested ∙ holds.state;
        tests = judged_tests m c.args.counts.now c.judge_board.new.counts (kept_by run)
            (kept_by new) _ c.requires.room shape shape_too told (judged.tests rested);
        values = λ runs. judged_values m c.args.counts.now c.judge_board.new.counts (kept_by run)
            (kept_by new) _ c.requires.room shape shape_too told (judged.values rested runs);
      };
    }
