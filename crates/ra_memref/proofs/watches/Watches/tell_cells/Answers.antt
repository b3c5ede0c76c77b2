use Rattle.std.proofs.Common.{arith}
use Rattle.ra_memref.proofs.Telling.{told_together, told_whole}
use Rattle.ra_memref.proofs.watches.Watches.tell_cells.Goals as goal

pub returns-then-are_within : goal.returns-then-are_within
returns-then-are_within c =
    told_whole c.self.inside c.args.self.now c.args.at c.args.count c.self.view_is c.self.invariant.indexed
    c.requires.some c.requires.within c.if-count-self.true
    (rw c.deref.ensures.value at c.are_within.ensures c.if-are_within.true)

pub returns : goal.returns
returns c =
    let e = rw (c.deref-2.ensures.value, c.deref-3.ensures.value) at c.mark_watchers-self-inside.ensures in
    told_together c.self.inside c.args.self.now c.mark_watchers-self-inside.result c.mark_watchers-self-inside.new.marks
    c.args.at c.args.count c.self.view_is c.self.invariant.indexed c.requires.some e.long
    (λ k below. e.marked k (omega (arith, below, c.self.invariant.indexed.marks_too)))
