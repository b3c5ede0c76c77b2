use Rattle.std.proofs.Common.{◌||◌, ◌<◌, true, length, get_or, sym, ◌∙◌, ap, arith}
use Rattle.ra_memref.specs.Watches.{marked_by}
use Rattle.ra_memref.proofs.Together.{stays_together, taken_out}
use Rattle.ra_memref.proofs.watches.mark_watchers.Goals as goal
use Rattle.ra_memref.proofs.watches.mark_watchers.Goals.{then-not-is_marked, else-not-is_marked}

pub loop-cell-preserved : goal.loop-cell-preserved
loop-cell-preserved c =
    let cell = c.loop-cell.cell in
    let below : cell < length c.args.marks.now =
    omega (arith, c.requires.places, c.loop-cell-test.true, c.loop-cell.auto.cell-end) in
    let marked = get_or (marked_by c.args.marked_from c.loop-cell.marks) cell true in
    let found = sym (c.is_marked.ensures ∙ ap (λ b. marked || b) c.is_watcher-watched.ensures) in
    elim c.if-not-is_marked.branch [
      | then-not-is_marked w ↦
          let taken = w.unmark_together.ensures in
          rw (w.marks-is, w.together-is)
          (taken_out c.loop-cell.invariant w.unmark_together.new.marks below (found ∙ w.if-not-is_marked.true)
          taken.long taken.unmarked taken.later)
      | else-not-is_marked w ↦ rw (w.marks-is, w.together-is)
          (stays_together c.loop-cell.invariant (found ∙ w.if-not-is_marked.false))
    ]
