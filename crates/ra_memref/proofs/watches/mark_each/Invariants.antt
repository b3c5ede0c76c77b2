use Rattle.std.proofs.Common.{slice_index}
use Rattle.ra_memref.specs.Watches.{watches_between}
use Rattle.ra_memref.proofs.EachCell.{AreMarkedTo}
use Rattle.ra_memref.proofs.watches.mark_each.Given as goal

abbrev pub invariant-loop-cell : goal.invariant-loop-cell
invariant-loop-cell l = AreMarkedTo l.initial.marks l.marks
    (λ k. watches_between l.size l.first l.end (slice_index l.cells.places.now k)
    (slice_index l.cells.widths.now k)) l.from l.cell
