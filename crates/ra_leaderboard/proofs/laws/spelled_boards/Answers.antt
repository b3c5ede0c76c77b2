use Rattle.ra_leaderboard.proofs.BoardStructure.{board_text, board-spelled, board-structure}
use Rattle.ra_leaderboard.proofs.laws.spelled_boards.Goals as goal

pub returns : goal.returns
returns c = λ b. (λ h. (board_text b, board-spelled b h), λ h. board-structure h.0 b h.1)
