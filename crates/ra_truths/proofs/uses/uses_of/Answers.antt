use Rattle.std.proofs.Common.{◌≡◌, ◌∙◌, length, ap, arith, subst, sym}
use Rattle.std.proofs.lemmas.Result.{IfOk-weaker}
use Rattle.ra_links.specs.FlatRows.{rows_by}
use Rattle.ra_truths.specs.Uses.{AreUses}
use Rattle.ra_truths.proofs.UsesLemmas.{AreUsing, uses_by, using_more, using_none}
use Rattle.ra_truths.proofs.uses.uses_of.Goals as goal

pub loop-number-init : goal.loop-number-init
loop-number-init c = rw c.in_ok-entries.ensures.items (using_none c.args.comparisons.now c.args.nodes)

pub loop-number-preserved : goal.loop-number-preserved
loop-number-preserved c = rw (c.in_ok-push-2.ensures.items, c.in_ok-push.ensures.items)
    (using_more c.args.comparisons.now c.args.nodes c.requires.within c.loop-number.entries.items c.loop-number.number
    c.loop-number-test.true c.loop-number.invariant)

pub returns : goal.returns
returns c =
    let comparisons = c.args.comparisons.now in
    let nodes = c.args.nodes in
    let entries = c.loop-number.entries.items in
    let end : c.loop-number.number ≡ length comparisons = omega arith in
    IfOk-weaker c.new.result _ _
    (λ rows is. subst (AreUses comparisons nodes) (sym (is ∙ ap (rows_by nodes) c.deref.ensures.value)) (
    uses_by comparisons nodes c.requires.within entries
    (subst (λ n. AreUsing comparisons nodes n entries) end c.loop-number.invariant)))
    c.new.ensures
