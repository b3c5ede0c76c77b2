use Rattle.std.proofs.Common.{◌∙◌, ap}
use Rattle.ra_operand.specs.Views.{transformed}
use Rattle.ra_lint.specs.Ranges.{range}
use Rattle.ra_lint.proofs.OrderedLemmas.{most_shown, upright_range, inverted_range}
use Rattle.ra_lint.proofs.range.Range.of_view.Goals as goal

pub returns-in-Inverted : goal.returns-in-Inverted
returns-in-Inverted c =
    let kind = c.args.kind in
    let size = c.args.size in
    let most = c.view-most.ensures ∙ most_shown size in
    let least = c.transform.ensures ∙ ap (transformed kind size) most in
    (λ i. range (least i) (c.transform-in-Inverted.ensures i)) ∙ inverted_range kind size c.in-Inverted.is

pub returns-in_default : goal.returns-in_default
returns-in_default c =
    let kind = c.args.kind in
    let size = c.args.size in
    let most = c.view-most.ensures ∙ most_shown size in
    let greatest = c.transform-in_default.ensures ∙ ap (transformed kind size) most in
    (λ i. range 0 (greatest i)) ∙ upright_range kind size c.in_default.not-Inverted
