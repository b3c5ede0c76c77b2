use Rattle.ra_condition.specs.Contents.{value_contents}
use Rattle.ra_value.proofs.OrdersLemmas.{reads_parts}
use Rattle.ra_value.proofs.value.Value.step.Goals as goal

pub step_value-requires-clause-reads : goal.step_value-requires-clause-reads
step_value-requires-clause-reads c =
    reads_parts (value_contents c.args.text.now) _ c.requires.orders c.requires.pauses
    c.requires.truths c.requires.lefts
