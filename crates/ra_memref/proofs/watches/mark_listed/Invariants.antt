use Rattle.std.proofs.Common.{true, length}
use Rattle.ra_links.specs.Rows.{row_at}
use Rattle.ra_memref.proofs.Walks.{IsWalking, rest_of}
use Rattle.ra_memref.proofs.watches.mark_listed.Given as goal

abbrev pub invariant-loop-next : goal.invariant-loop-next
invariant-loop-next l = IsWalking l.lists l.list (λ k. true) l.initial.marks l.marks l.next

abbrev pub decreases-loop-next : goal.decreases-loop-next
decreases-loop-next l = length (rest_of l.next (row_at l.lists.lists l.list))
