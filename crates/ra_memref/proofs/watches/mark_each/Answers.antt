use Rattle.std.proofs.Common.{sym, ◌∙◌}
use Rattle.ra_memref.proofs.EachCell.{named_too, passed_here}
use Rattle.ra_memref.proofs.watches.mark_each.Goals as goal
use Rattle.ra_memref.proofs.watches.mark_each.Goals.{then-not-is_watcher, else-not-is_watcher}

pub loop-cell-preserved : goal.loop-cell-preserved
loop-cell-preserved c =
    let found = sym c.is_watcher.ensures in
    elim c.if-not-is_watcher.branch [
      | then-not-is_watcher w ↦ rw (w.marks-is, w.from-is)
          (passed_here c.loop-cell.invariant _ w.set_between.ensures (found ∙ w.if-not-is_watcher.true))
      | else-not-is_watcher w ↦ rw (w.marks-is, w.from-is)
          (named_too c.loop-cell.invariant (found ∙ w.if-not-is_watcher.false))
    ]
