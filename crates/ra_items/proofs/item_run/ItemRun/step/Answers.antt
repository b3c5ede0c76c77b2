use Rattle.ra_condition.specs.Contents.{trigger_contents}
use Rattle.ra_leaderboard.specs.Contents.{board_contents}
use Rattle.ra_items.proofs.ItemLemmas.{achievement_item, board_item}
use Rattle.ra_items.proofs.item_run.ItemRun.step.Goals as goal
use Rattle.ra_items.proofs.item_run.ItemRun.step.Goals.{in-Achievement-Achievement, in-Leaderboard-Leaderboard}

pub returns-clause-steps : goal.returns-clause-steps
returns-clause-steps c =
    elim c.match-self.branch [
      | in-Achievement-Achievement w ↦
          let h = w.in-Achievement-Achievement in
          rw (w.self-is, h.is-0, h.is-1) (achievement_item c.args.table.now h.id-1
          (trigger_contents h.text) h.run' w.step.new.self w.step.ensures.steps)
      | in-Leaderboard-Leaderboard w ↦
          let h = w.in-Leaderboard-Leaderboard in
          let s = w.step-in-Leaderboard-Leaderboard in
          let old = rw (h.is-0, h.is-1) at c.requires.run in
          rw (w.self-is, h.is-0, h.is-1) (board_item c.args.table.now.nodes c.args.table.now h.id-1
          h.format-1 (board_contents h.text.value) h.run' s.new.self old (rw w.deref.ensures at s.ensures.steps))
    ]

pub step-requires-in-Leaderboard-Leaderboard-clause-run : goal.step-requires-in-Leaderboard-Leaderboard-clause-run
step-requires-in-Leaderboard-Leaderboard-clause-run c =
    let h = c.in-Leaderboard-Leaderboard in
    rw c.deref.ensures (rw (h.is-0, h.is-1) at c.requires.run)
