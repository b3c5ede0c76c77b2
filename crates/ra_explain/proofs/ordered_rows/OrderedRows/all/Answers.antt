use Rattle.std.proofs.Common.{arith, ◌≡◌, ◌+◌, ◌∷◌, [], ◌++◌, suc, ap, sym, subst, ◌∙◌}
use Rattle.std.specs.List.{AllByRecursion, range_with_len}
use Rattle.ra_explain.specs.OrderedRows.{LiesWithin}
use Rattle.ra_explain.proofs.OrderLemmas.{all_below, all_within, range_more}
use Rattle.ra_explain.proofs.ordered_rows.OrderedRows.all.Goals as goal

pub loop-index-preserved : goal.loop-index-preserved
loop-index-preserved c =
    let index = c.loop-index.index in
    let next : suc index ≡ index + 1 = omega arith in
    c.in_ok-push.ensures.items ∙ ap (λ ks. ks ++ index ∷ []) c.loop-index.invariant
    ∙ sym (range_more 0 index index (omega arith)) ∙ ap (range_with_len 0) next

pub new-requires : goal.new-requires
new-requires c =
    let count = c.args.last + 1 in
    let end : c.loop-index.index ≡ count = omega (arith, c.loop-index-test.false) in
    subst (AllByRecursion (LiesWithin c.args.width c.args.truths.now))
    (sym (c.loop-index.invariant ∙ ap (range_with_len 0) end))
    (all_within c.args.width count c.args.truths.now (range_with_len 0 count) c.requires
    (all_below 0 count count (omega arith)))
