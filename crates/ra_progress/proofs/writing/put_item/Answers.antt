use Rattle.ra_progress.proofs.Written.{achievement_short, board_short}
use Rattle.ra_progress.proofs.writing.put_item.Goals as goal

pub state_byte-state-requires : goal.state_byte-state-requires
state_byte-state-requires c =
    let w = c.in-Achievement in
    (achievement_short w.state w.measured w.hits.items w.earned (rw w.is at c.requires)).0

pub put_achievement-requires : goal.put_achievement-requires
put_achievement-requires c =
    let w = c.in-Achievement in
    rw c.deref.ensures.value ((achievement_short w.state w.measured w.hits.items w.earned (rw w.is at c.requires)).1)

pub put_board-requires : goal.put_board-requires
put_board-requires c =
    let w = c.in-Leaderboard in
    rw (c.deref-in-Leaderboard.ensures.value, c.deref-in-Leaderboard-2.ensures.value)
    (board_short w.state w.hits.items w.kept.items (rw w.is at c.requires))
