use Rattle.std.proofs.Common.{◌-◌, length, slice_index}
use Rattle.ra_links.specs.Rows.{row_at}
use Rattle.ra_memref.specs.Watches.{reaches}
use Rattle.ra_memref.proofs.Walks.{IsWalking, rest_of}
use Rattle.ra_memref.proofs.watches.mark_reaching.Given as goal

abbrev pub invariant-loop-next : goal.invariant-loop-next
invariant-loop-next l = IsWalking l.lists (l.first - 1)
    (λ k. reaches l.size l.first l.end (slice_index l.cells.places.now k) (slice_index l.cells.widths.now k))
    l.initial.marks l.marks l.next

abbrev pub decreases-loop-next : goal.decreases-loop-next
decreases-loop-next l = length (rest_of l.next (row_at l.lists.lists (l.first - 1)))
