use Rattle.ra_items.proofs.rest.note_item.Goals as goal

pub note_board-requires-clause-run : goal.note_board-requires-clause-run
note_board-requires-clause-run c =
    rw c.deref.ensures
    (rw (c.in-Leaderboard-Leaderboard.is-0, c.in-Leaderboard-Leaderboard.is-1) at c.requires.run)

pub returns-in-Leaderboard-Leaderboard-clause-told : goal.returns-in-Leaderboard-Leaderboard-clause-told
returns-in-Leaderboard-Leaderboard-clause-told c =
    rw c.in-Leaderboard-Leaderboard.is-0 (rw c.deref.ensures at c.note_board.ensures.told)
