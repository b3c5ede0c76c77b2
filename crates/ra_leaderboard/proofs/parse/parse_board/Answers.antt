use Rattle.std.proofs.Common.{◌≡◌, length, Ok, Err, arith}
use Rattle.ra_leaderboard.specs.Contents.{board_contents}
use Rattle.ra_leaderboard.specs.Grammar.{board}
use Rattle.ra_leaderboard.specs.Reading.{board_at}
use Rattle.ra_leaderboard.proofs.BoardReaders.{reads-board}
use Rattle.ra_leaderboard.proofs.BoardStructure.{board-structure}
use Rattle.ra_text.proofs.Places.{rest_fits, whole_ok, whole_stops, whole_fails}
use Rattle.ra_leaderboard.proofs.parse.parse_board.Goals as goal

pub place-at-requires : goal.place-at-requires
place-at-requires c = rest_fits board board_at reads-board c.args.text.now 0
    c.new-cursor.result.rest.now c.new-cursor.ensures
    (Ok (board_contents c.in-Ok.board, c.take_board.new.cursor.rest.now)) c.in-Ok.ensures

pub place-requires : goal.place-requires
place-requires c = let e = rw c.in-Err-Stop.field-0-is at c.in-Err-Stop.ensures in
    rest_fits board board_at reads-board c.args.text.now 0 c.new-cursor.result.rest.now
    c.new-cursor.ensures (Err c.take_board.new.cursor.rest.now) e

pub returns-then-at-text-clause-err : goal.returns-then-at-text-clause-err
returns-then-at-text-clause-err c = whole_stops board board_at reads-board c.args.text.now
    (board_contents c.in-Ok.board) c.take_board.new.cursor.rest.now
    (rw c.new-cursor.ensures at c.in-Ok.ensures)
    (λ none. omega (arith, none)) c.place-at.result c.place-at.ensures

pub returns-else-at-text-clause-ok : goal.returns-else-at-text-clause-ok
returns-else-at-text-clause-ok c =
    let fits = rest_fits board board_at reads-board c.args.text.now 0 c.new-cursor.result.rest.now
    c.new-cursor.ensures
    (Ok (board_contents c.in-Ok.board, c.take_board.new.cursor.rest.now)) c.in-Ok.ensures in
    let none : length c.take_board.new.cursor.rest.now ≡ 0 = omega (arith, fits) in
    whole_ok board board_at reads-board c.args.text.now (board_contents c.in-Ok.board)
    c.take_board.new.cursor.rest.now (rw c.new-cursor.ensures at c.in-Ok.ensures) none

pub returns-else-at-text-clause-structure : goal.returns-else-at-text-clause-structure
returns-else-at-text-clause-structure c = let r = reads-board c.new-cursor.result.rest.now in
    board-structure r.front (board_contents c.in-Ok.board)
    (r.spelled (board_contents c.in-Ok.board) c.take_board.new.cursor.rest.now c.in-Ok.ensures)

pub returns-in-Err-Stop-clause-err : goal.returns-in-Err-Stop-clause-err
returns-in-Err-Stop-clause-err c = let e = rw c.in-Err-Stop.field-0-is at c.in-Err-Stop.ensures in
    whole_fails board board_at reads-board c.args.text.now c.take_board.new.cursor.rest.now
    (rw c.new-cursor.ensures at e) c.place.result c.place.ensures
