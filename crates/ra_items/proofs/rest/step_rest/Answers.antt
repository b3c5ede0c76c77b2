use Rattle.ra_condition.specs.Contents.{trigger_contents}
use Rattle.ra_leaderboard.specs.Contents.{board_contents}
use Rattle.ra_items.proofs.ItemLemmas.{achievement_item, board_item}
use Rattle.ra_items.proofs.rest.step_rest.Goals as goal
use Rattle.ra_items.proofs.rest.step_rest.Goals.{in-Achievement-Achievement-Achievement}
use Rattle.ra_items.proofs.rest.step_rest.Goals.{in-Leaderboard-Leaderboard-Leaderboard}

pub step_board-requires-clause-run : goal.step_board-requires-clause-run
step_board-requires-clause-run c =
    let h = c.in-Leaderboard-Leaderboard-Leaderboard in
    rw c.deref.ensures (rw (h.is-0, h.is-2) at c.requires.run)

pub returns-clause-steps : goal.returns-clause-steps
returns-clause-steps c =
    elim c.match-run.branch [
      | in-Achievement-Achievement-Achievement w ↦
          let h = w.in-Achievement-Achievement-Achievement in
          rw (w.run-is, h.is-0, h.is-2) (achievement_item c.args.table.now h.id-2 (trigger_contents
          h.text) h.run' w.step_achievement.new.run w.step_achievement.ensures.steps)
      | in-Leaderboard-Leaderboard-Leaderboard w ↦
          let h = w.in-Leaderboard-Leaderboard-Leaderboard in
          let old = rw (h.is-0, h.is-2) at c.requires.run in
          rw (w.run-is, h.is-0, h.is-2) (board_item c.args.table.now.nodes c.args.table.now h.id-2
          h.format-2 (board_contents h.text.value) h.run' w.step_board.new.run old
          (rw w.deref.ensures at w.step_board.ensures.steps))
    ]
