use Rattle.std.proofs.lemmas.Result.{err_from_is_err_and}
use Rattle.serde_json.specs.View.{view}
use Rattle.ra_patch.proofs.Breadth.{few-achievement_values, few-board_values}
use Rattle.ra_patch.proofs.FaultLemmas.{first-second, first-third, first-fourth}
use Rattle.ra_patch.proofs.check.check_document.Goals as goal

pub check_items-requires : goal.check_items-requires
check_items-requires c =
    few-achievement_values (view c.args.document.now) c.requires c.achievements_or_none-achievements.result.now
    c.achievements_or_none-achievements.ensures

pub check_items-requires-2 : goal.check_items-requires-2
check_items-requires-2 c =
    few-board_values (view c.args.document.now) c.requires c.boards_or_none-boards.result.now
    c.boards_or_none-boards.ensures

pub check_items-requires-3 : goal.check_items-requires-3
check_items-requires-3 c =
    few-achievement_values (view c.args.document.now) c.requires c.achievements_or_none-achievements.result.now
    c.achievements_or_none-achievements.ensures

pub check_items-requires-4 : goal.check_items-requires-4
check_items-requires-4 c =
    few-board_values (view c.args.document.now) c.requires c.boards_or_none-boards.result.now
    c.boards_or_none-boards.ensures

pub returns-in_err-check_items-clause-err : goal.returns-in_err-check_items-clause-err
returns-in_err-check_items-clause-err c =
    let p =
    err_from_is_err_and c.from_residual-in_err-check_items.result c.from_residual-in_err-check_items.ensures.1 in
    rw (p.1, p.2, ← c.achievements_or_none-achievements.ensures)
    (first-second _ _ _ _ _ _ c.in_ok-check_root.ensures.ok c.in_err-check_items.ensures.err)

pub returns-in_err-check_items-2-clause-err : goal.returns-in_err-check_items-2-clause-err
returns-in_err-check_items-2-clause-err c =
    let p =
    err_from_is_err_and c.from_residual-in_err-check_items-2.result c.from_residual-in_err-check_items-2.ensures.1
    in
    rw (p.1, p.2, ← c.achievements_or_none-achievements.ensures, ← c.boards_or_none-boards.ensures)
    (first-third _ _ _ _ _ _ c.in_ok-check_root.ensures.ok c.in_ok-check_items.ensures.ok
    c.in_err-check_items-2.ensures.err)

pub returns-in_err-check_items-3-clause-err : goal.returns-in_err-check_items-3-clause-err
returns-in_err-check_items-3-clause-err c =
    let p =
    err_from_is_err_and c.from_residual-in_err-check_items-3.result c.from_residual-in_err-check_items-3.ensures.1
    in
    rw (p.1, p.2, ← c.achievements_or_none-achievements.ensures, ← c.boards_or_none-boards.ensures)
    (first-fourth _ _ _ _ _ _ c.in_ok-check_root.ensures.ok c.in_ok-check_items.ensures.ok
    c.in_ok-check_items-2.ensures.ok c.in_err-check_items-3.ensures.err)
