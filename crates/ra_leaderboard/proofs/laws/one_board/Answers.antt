use Rattle.ra_leaderboard.specs.Grammar.{board}
use Rattle.ra_leaderboard.specs.Reading.{board_at}
use Rattle.ra_leaderboard.proofs.BoardReaders.{reads-board}
use Rattle.ra_text.proofs.Places.{spelled-once}
use Rattle.ra_leaderboard.proofs.laws.one_board.Goals as goal

pub returns : goal.returns
returns c = spelled-once board board_at reads-board
