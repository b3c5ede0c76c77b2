use Rattle.std.proofs.Common.{sym, ap, ◌∙◌, arith}
use Rattle.ra_memref.specs.Watches.{marked_by}
use Rattle.ra_memref.proofs.MarkLemmas.{marked_before, marked_after, unmarked_own}
use Rattle.ra_memref.proofs.watches.unmark.Goals as goal

pub returns-then-cell-marked_from-clause-was : goal.returns-then-cell-marked_from-clause-was
returns-then-cell-marked_from-clause-was c = c.take_back.ensures.was
    ∙ sym (marked_before c.args.marked_from.now c.args.marks.now c.args.cell c.if-cell-marked_from.true)

pub returns-then-cell-marked_from-clause-unmarked : goal.returns-then-cell-marked_from-clause-unmarked
returns-then-cell-marked_from-clause-unmarked c = ap (marked_by c.args.marked_from.now) c.take_back.ensures.unset
    ∙ unmarked_own c.args.marked_from.now c.args.marks.now c.args.cell c.if-cell-marked_from.true

pub overflow_add-marked_from : goal.overflow_add-marked_from
overflow_add-marked_from c = omega (arith, c.requires.cell, c.requires.few)

pub returns-clause-was : goal.returns-clause-was
returns-clause-was c = sym (marked_after c.args.marked_from.now c.args.marks.now c.args.cell
    c.if-cell-marked_from.false)

pub returns-clause-unmarked : goal.returns-clause-unmarked
returns-clause-unmarked c = c.unmark_together.ensures.unmarked
