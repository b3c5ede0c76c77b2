use Rattle.std.proofs.Common.{◌≤◌, length, sym, arith, subst}
use Rattle.ra_memref.specs.Flags.{SetsBetween}
use Rattle.ra_memref.proofs.MarkLemmas.{marked_past, own_all}
use Rattle.ra_memref.proofs.watches.own_marks.Goals as goal

pub returns-then-count-marked_from-clause-own : goal.returns-then-count-marked_from-clause-own
returns-then-count-marked_from-clause-own c =
    let past : length c.args.marks.now ≤ c.args.marked_from = omega (arith, c.requires, c.if-count-marked_from.true) in
    sym (marked_past c.args.marked_from c.args.marks.now past)

pub returns-clause-own : goal.returns-clause-own
returns-clause-own c = own_all c.args.marked_from c.args.marks.now c.set_between.new.self (subst
    (λ n. SetsBetween c.args.marked_from n c.args.marks.now c.set_between.new.self) c.requires c.set_between.ensures)
