use Rattle.ra_leaderboard.specs.Contents.{board_contents}
use Rattle.ra_meaning.specs.Order.{board_member}
use Rattle.ra_items.proofs.BoardLemmas.{member_stepped}
use Rattle.ra_items.proofs.board_run.follow.Goals as goal
use Rattle.ra_items.proofs.board_run.follow.Goals.{then-begins, else-begins}

pub step_values-requires-clause-run : goal.step_values-requires-clause-run
step_values-requires-clause-run c =
    elim c.if-begins.branch [
      | then-begins w ↦
          rw w.member-is (w.reset_values.ensures.stays c.args.table.now.nodes
          (board_member (board_contents c.args.text.now)) c.requires.run)
      | else-begins w ↦ rw w.member-is c.requires.run
    ]

pub returns-clause-run : goal.returns-clause-run
returns-clause-run c =
    let m = board_member (board_contents c.args.text.now) in
    member_stepped c.args.table.now m c.if-begins.member c.step_values.new.member (elim c.if-begins.branch [
      | then-begins w ↦ rw w.member-is (w.reset_values.ensures.stays c.args.table.now.nodes m c.requires.run)
      | else-begins w ↦ rw w.member-is c.requires.run
    ]) c.step_values.ensures
