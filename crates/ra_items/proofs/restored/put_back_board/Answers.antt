use Rattle.std.proofs.Common.{◌+◌, ◌*◌, ◌∙◌, Option, ℕ, Some, sym, ap, subst, arith}
use Rattle.ra_leaderboard.specs.States.{board_state_of}
use Rattle.ra_items.specs.declared.board_run.BoardRun.{BoardRun}
use Rattle.ra_items.specs.Restoring.{HasItem, PutsBackBoard}
use Rattle.ra_items.specs.Shapes.{board_run_shape}
use Rattle.ra_items.proofs.RestoreLemmas.{board_back, board_cleared}
use Rattle.ra_items.proofs.restored.put_back_board.Goals as goal

pub returns-in-Some : goal.returns-in-Some
returns-in-Some c =
    let bytes = c.args.bytes.now in
    let at = c.in-Some.at in
    let back = c.put_back-in-Some.ensures in
    let block = c.board_block-block.ensures in
    let old = c.args.run.now in
    let new : BoardRun = record old { member = c.put_back-in-Some.new.self; board = c.put_back.new.self } in
    let has : HasItem bytes (Some at) (board_run_shape old) = subst
    (λ (place : Option ℕ). HasItem bytes place (board_run_shape old)) c.in-Some.is c.requires in
    subst (λ (place : Option ℕ). PutsBackBoard bytes place old new) (sym c.in-Some.is)
    (board_back bytes at (at + 1 + 4 * c.shape.result.hits) old new has.1 (c.put_back.ensures
    ∙ c.of_byte.ensures ∙ ap board_state_of block.state) back.stays (omega
    (arith, c.shape.ensures.hits)) (rw block.hits at back.hits) (rw block.numbers at back.numbers))

pub returns-in-None : goal.returns-in-None
returns-in-None c =
    let old = c.args.run.now in
    let new : BoardRun = record old { member = c.clear.new.self; board = c.put_back-in-None.new.self } in
    subst (λ (place : Option ℕ). PutsBackBoard c.args.bytes.now place old new) (sym c.in-None.is)
    (board_cleared c.args.bytes.now old new c.put_back-in-None.ensures c.clear.ensures.stays c.clear.ensures.kept)
