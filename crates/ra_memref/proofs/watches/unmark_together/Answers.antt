use Rattle.std.proofs.Common.{◌+◌, true, false, get_or, ap, ◌∙◌, arith}
use Rattle.std.proofs.lemmas.List.{get_or-set_other}
use Rattle.ra_memref.specs.Watches.{marked_by}
use Rattle.ra_memref.proofs.MarkLemmas.{unmarked_other}
use Rattle.ra_memref.proofs.watches.unmark_together.Goals as goal

pub returns-clause-unmarked : goal.returns-clause-unmarked
returns-clause-unmarked c = ap (marked_by (c.args.cell + 1)) c.take_back.ensures.unset
    ∙ unmarked_other c.args.marked_from c.args.cell c.args.marks.now c.set_between.new.self
    c.requires.together c.requires.cell c.set_between.ensures

pub returns-clause-later : goal.returns-clause-later
returns-clause-later c = λ k high. ap (λ ms. get_or ms k true) c.take_back.ensures.unset
    ∙ get_or-set_other c.set_between.new.self c.args.cell k false true (λ same. absurd (omega (arith, same, high)))
    ∙ c.set_between.ensures.after k (omega (arith, high))
