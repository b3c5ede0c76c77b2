use Rattle.std.proofs.Common.{option_map, ap}
use Rattle.ra_condition.specs.Contents.{value_contents}
use Rattle.ra_leaderboard.specs.Contents.{board_contents}
use Rattle.ra_items.proofs.BoardLemmas.{value_alone, progress_stepped}
use Rattle.ra_items.proofs.board_run.step_values.Goals as goal

pub returns-in-Some : goal.returns-in-Some
returns-in-Some c =
    let parts = value_contents c.in-Some.progress in
    progress_stepped c.args.table.now (board_contents c.args.text.now) c.args.member.now
    c.requires.run.values c.step_value.new.self c.step_value.ensures parts (ap (option_map
    value_contents) c.in-Some.is) c.step_value-in-Some.new.self c.step_value-in-Some.ensures

pub returns-in_default : goal.returns-in_default
returns-in_default c =
    value_alone c.args.table.now (board_contents c.args.text.now) c.args.member.now
    c.requires.run.values c.step_value.new.self c.step_value.ensures
    (ap (option_map value_contents) c.in_default.is)
