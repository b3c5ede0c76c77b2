use Rattle.std.proofs.Common.{slice_index}
use Rattle.ra_memref.specs.Watches.{watches_between}
use Rattle.ra_memref.proofs.Together.{AreTogether}
use Rattle.ra_memref.proofs.watches.mark_watchers.Given as goal

abbrev pub invariant-loop-cell : goal.invariant-loop-cell
invariant-loop-cell l = AreTogether l.marked_from l.initial.marks l.marks
    (λ k. watches_between l.size l.first l.end (slice_index l.cells.places.now k)
    (slice_index l.cells.widths.now k)) l.together l.cell
