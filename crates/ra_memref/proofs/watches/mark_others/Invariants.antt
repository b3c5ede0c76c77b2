use Rattle.std.proofs.Common.{◌≡◌, ◌+◌, take, drop, length, slice_index}
use Rattle.std.specs.List.{sum_by}
use Rattle.ra_memref.specs.Watches.{order_by, one_unmarked}
use Rattle.ra_memref.specs.Marking.{is_other}
use Rattle.ra_memref.proofs.Orders.{AreVisited}
use Rattle.ra_memref.proofs.watches.mark_others.Given as goal

abbrev pub invariant-loop-turn : goal.invariant-loop-turn
invariant-loop-turn g l = record {
  visited : AreVisited l.initial.marks l.marks
      (λ k. is_other (g.I.Image.bytes l.initial.image) (slice_index l.cells.widths.now k)
      (slice_index l.cells.places.now k) (slice_index l.numbers k))
      (take l.turn (order_by (length l.cells.places.now) l.order));
  reads : g.I.Image.reads l.image
      + sum_by (one_unmarked l.initial.marks) (drop l.turn (order_by (length l.cells.places.now) l.order))
      ≡ g.I.Image.reads l.initial.image
      + sum_by (one_unmarked l.initial.marks) (order_by (length l.cells.places.now) l.order);
  bytes : g.I.Image.bytes l.image ≡ g.I.Image.bytes l.initial.image;
  counter : g.I.Image.counter l.image ≡ g.I.Image.counter l.initial.image;
}
