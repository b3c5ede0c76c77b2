use Rattle.std.proofs.Common.{◌∙◌, length, sym, subst}
use Rattle.ra_chain.specs.Elaborates.{SpellsEach}
use Rattle.ra_chain.specs.Elaboration.{left_of, right_of}
use Rattle.ra_lint.proofs.JudgingLemmas.{below_all, verdicts_same}
use Rattle.ra_lint.proofs.judging.judge_planned.Goals as goal

pub verdicts_of-requires : goal.verdicts_of-requires
verdicts_of-requires c =
    let cs = c.args.conditions.now in
    let nodes = c.args.pool.now in
    let ranges = c.deref.ensures.value ∙ c.in_ok-ranges.ensures in
    let lefts = subst (λ ns. SpellsEach nodes ns (length cs) (left_of cs))
    (sym c.deref-2.ensures.value) c.requires.lefts in
    let rights = subst (λ ns. SpellsEach nodes ns (length cs) (right_of cs))
    (sym c.deref-3.ensures.value) c.requires.rights in
    record {
      lefts = lefts.as_many;
      rights = rights.as_many;
      lefts_within = below_all nodes c.requires.pool cs c.deref.result.now c.deref-2.result.now c.deref-3.result.now
          ranges lefts rights c.deref-2.result.now (left_of cs) lefts;
      rights_within = below_all nodes c.requires.pool cs c.deref.result.now c.deref-2.result.now c.deref-3.result.now
          ranges lefts rights c.deref-3.result.now (right_of cs) rights;
    }

pub returns : goal.returns
returns c =
    let cs = c.args.conditions.now in
    let nodes = c.args.pool.now in
    let ranges = c.deref.ensures.value ∙ c.in_ok-ranges.ensures in
    let lefts = subst (λ ns. SpellsEach nodes ns (length cs) (left_of cs))
    (sym c.deref-2.ensures.value) c.requires.lefts in
    let rights = subst (λ ns. SpellsEach nodes ns (length cs) (right_of cs))
    (sym c.deref-3.ensures.value) c.requires.rights in
    c.in_ok-verdicts.ensures
    ∙ verdicts_same nodes c.requires.pool cs c.deref.result.now c.deref-2.result.now c.deref-3.result.now ranges
    lefts rights
