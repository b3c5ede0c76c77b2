use Rattle.std.proofs.Common.{map, sym, ap, ◌∙◌}
use Rattle.ra_condition.specs.Contents.{value_contents}
use Rattle.ra_value.specs.Kept.{uncounted}
use Rattle.ra_value.specs.Steps.{part_steps, number_after}
use Rattle.ra_value.proofs.CountedLemmas.{uncounted-numbers}
use Rattle.ra_value.proofs.parts.step_value.Goals as goal

pub returns-then-step_parts-clause-numbers : goal.returns-then-step_parts-clause-numbers
returns-then-step_parts-clause-numbers c =
    let parts = value_contents c.args.text.now in
    let steps = part_steps parts c.args.reads.now.truths.now c.args.reads.now.lefts.now
    c.args.hits.now c.args.sums.now c.args.numbers.now in
    c.clear_counted.ensures
    ∙ ap (uncounted parts) c.step_parts.ensures.numbers
    ∙ uncounted-numbers parts c.args.reads.now.truths.now c.args.reads.now.lefts.now c.args.hits.now
    c.args.sums.now c.args.numbers.now
    ∙ ap (λ b. map (number_after b) steps) (sym c.if-step_parts.true ∙ c.step_parts.ensures.reset)
