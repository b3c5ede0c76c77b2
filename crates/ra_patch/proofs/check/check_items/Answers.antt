use Rattle.std.proofs.lemmas.Result.{err_from_is_err_and}
use Rattle.ra_patch.specs.Checks.{faults_by}
use Rattle.ra_patch.proofs.FaultLemmas.{first-at}
use Rattle.ra_patch.proofs.check.check_items.Goals as goal

pub returns-in_err-check_item-clause-err : goal.returns-in_err-check_item-clause-err
returns-in_err-check_item-clause-err c = let p = err_from_is_err_and c.from_residual.result c.from_residual.ensures.1 in
    rw (p.1, p.2, c.loop-item.invariant.left)
    (first-at (faults_by c.args.check) c.loop-item.index c.args.items.now c.loop-item.item-index _ _
    c.loop-item-test.true c.item-item.is c.in_err-check_item.ensures.err)
