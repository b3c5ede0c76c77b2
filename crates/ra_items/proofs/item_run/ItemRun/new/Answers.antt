use Rattle.ra_leaderboard.specs.Contents.{board_contents}
use Rattle.std.proofs.Common.{arith}
use Rattle.ra_meaning.proofs.Counts.Items.{board_conditions}
use Rattle.ra_items.proofs.WaitingLemmas.{leaderboard_made}
use Rattle.ra_items.proofs.item_run.ItemRun.new.Goals as goal

pub returns-in_ok-run-in-Leaderboard : goal.returns-in_ok-run-in-Leaderboard
returns-in_ok-run-in-Leaderboard c =
    let item = c.in-Leaderboard in
    let run = c.in_ok-run-in-Leaderboard in
    rw item.is (leaderboard_made c.args.pool.now c.new-in-Leaderboard.new.pool item.id item.format
    (board_contents item.text.value) run.run' (rw c.deref.ensures at run.ensures))

pub new-requires-in-Leaderboard-clause-room : goal.new-requires-in-Leaderboard-clause-room
new-requires-in-Leaderboard-clause-room c =
    let item = c.in-Leaderboard in
    let room = rw item.is at c.requires.room in
    rw c.deref.ensures (omega (arith, room, board_conditions (board_contents item.text.value) item.id item.format))
