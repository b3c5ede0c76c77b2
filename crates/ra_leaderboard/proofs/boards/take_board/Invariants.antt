use Rattle.std.proofs.Common.{length}
use Rattle.ra_leaderboard.specs.Reading.{board_at}
use Rattle.ra_leaderboard.proofs.BoardLoop.{FieldsSoFar}
use Rattle.ra_leaderboard.proofs.boards.take_board.Given as goal

abbrev pub invariant-others : goal.invariant-others
invariant-others l = FieldsSoFar l.fields l.cursor.rest.now (board_at l.fn.cursor.rest.now)

abbrev pub decreases-others : goal.decreases-others
decreases-others l = length l.cursor.rest.now
