use Rattle.ra_leaderboard.specs.Contents.{board_contents}
use Rattle.ra_counts.proofs.BoardLemmas.{board_grows}
use Rattle.ra_counts.proofs.planted.plant_board.Goals as goal

pub returns : goal.returns
returns c =
    let b = board_contents c.args.text.now in
    board_grows b c.args.pool.now c.plant_trigger.new.pool c.plant_trigger-2.new.pool c.plant_trigger-3.new.pool
    c.plant_value.new.pool c.plant_progress.new.pool c.in_ok-plant_trigger.ensures c.in_ok-plant_trigger-2.ensures
    c.in_ok-plant_trigger-3.ensures c.in_ok-plant_value.ensures c.in_ok-plant_progress.ensures
