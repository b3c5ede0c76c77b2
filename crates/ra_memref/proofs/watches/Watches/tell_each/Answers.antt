use Rattle.std.proofs.Common.{◌+◌, ◌-◌, ◌/◌, arith}
use Rattle.ra_memref.proofs.MarkLemmas.{marked_too}
use Rattle.ra_memref.proofs.Telling.{is_told, told_together}
use Rattle.ra_memref.proofs.watches.Watches.tell_each.Goals as goal

pub returns : goal.returns
returns c =
    let e = rw (c.deref.ensures.value, c.deref-2.ensures.value) at c.mark_each.ensures in
    let t = c.self.inside in
    let marks = c.mark_each.new.marks in
    told_together t c.args.self.now t.marked_from marks c.args.at c.args.count c.self.view_is c.self.invariant.indexed
    c.requires.some e.long
    (λ k below. marked_too t.marked_from t.marks marks k
    (is_told t (c.args.at / 16) ((c.args.at + c.args.count - 1) / 16 + 1) k)
    (e.marked k (omega (arith, below, c.self.invariant.indexed.marks_too))))
