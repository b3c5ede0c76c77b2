use Rattle.std.proofs.Common.{◌||◌, sym, ap, ◌∙◌, get_or, true}
use Rattle.std.proofs.Math.Bool.{or-false}
use Rattle.std.proofs.lemmas.Bool.{or_left, or_right}
use Rattle.ra_memref.specs.Watches.{marked_by}
use Rattle.ra_memref.proofs.MarkLemmas.{marked_after, marked_before}
use Rattle.ra_memref.proofs.watches.is_marked.Goals as goal

pub returns-then-watched : goal.returns-then-watched
returns-then-watched c = sym (or_right (get_or (marked_by c.args.marked_from c.args.marks.now) c.args.cell true)
    c.args.watched c.if-watched.true)

pub returns-then-marked_from-cell : goal.returns-then-marked_from-cell
returns-then-marked_from-cell c = sym (or_left (get_or (marked_by c.args.marked_from c.args.marks.now) c.args.cell true)
    c.args.watched
    (marked_after c.args.marked_from c.args.marks.now c.args.cell c.if-marked_from-cell.true))

pub returns : goal.returns
returns c =
    let marked = get_or (marked_by c.args.marked_from c.args.marks.now) c.args.cell true in
    c.is_set.ensures
    ∙ sym (marked_before c.args.marked_from c.args.marks.now c.args.cell c.if-marked_from-cell.false)
    ∙ sym (or-false marked) ∙ ap (λ b. marked || b) (sym c.if-watched.false)
