use Rattle.std.proofs.Common.{subst, sym, ◌<◌, length, arith, ap}
use Rattle.std.proofs.lemmas.List.{length-set}
use Rattle.ra_memref.specs.Watches.{WatchesSeen, IsOrder, order_by}
use Rattle.ra_memref.proofs.Indexed.{indexed_moved, rewatched}
use Rattle.ra_memref.proofs.watches.Watches.settle.Goals as goal

pub unmark-requires-clause-few : goal.unmark-requires-clause-few
unmark-requires-clause-few g c = omega (arith, c.self.invariant.indexed.few, c.self.invariant.indexed.marks_too)

pub invariant_of-self : goal.invariant_of-self
invariant_of-self g c = rewatched c.unmark.ensures.long c.self.invariant

pub invariant_of-self-2 : goal.invariant_of-self-2
invariant_of-self-2 g c =
    let below : c.args.cell < length c.self.inside.places.items =
    omega (arith, c.requires, ap (λ (w : WatchesSeen). length w.places) c.self.view_is) in
    record {
      indexed = indexed_moved c.self.inside.listed c.self.inside.widths.items
          c.self.inside.places.items c.self.inside.marks _ c.self.inside.pages c.stand.new.pages
          c.args.cell c.args.place c.self.invariant.indexed below c.unmark-2.ensures.long (record {
            stands = c.stand.ensures.stands;
            others = c.stand.ensures.others;
            lists = c.stand.ensures.lists;
            nodes = c.stand.ensures.nodes;
          });
      ordered = subst (λ n. IsOrder n (order_by n c.self.inside.order.items)) (sym (length-set
          c.self.inside.places.items c.args.cell c.args.place)) c.self.invariant.ordered;
    }
