use Rattle.std.proofs.Common.{◌∙◌, ap, option_map}
use Rattle.ra_condition.specs.Contents.{trigger_contents}
use Rattle.ra_goals.specs.Choosing as spec
use Rattle.ra_set.specs.Contents.{item_contents}
use Rattle.std.proofs.Common.{map}
use Rattle.ra_goals.proofs.ChooseLemmas.{first_of, looked_at, or_mapped}
use Rattle.ra_goals.proofs.choosing.trigger_of.Goals as goal

pub loop-item-preserved : goal.loop-item-preserved
loop-item-preserved c =
    looked_at c.args.id (spec.trigger_of c.args.id (map item_contents c.args.set.items.items))
    c.loop-item.items.items c.pop.new.self.items c.in-Some.item
    (option_map trigger_contents c.loop-item.found) (option_map trigger_contents c.or-found.result)
    c.in-Some.ensures.items
    (ap (option_map trigger_contents) c.or-found.ensures
    ∙ or_mapped trigger_contents c.trigger_in.result c.loop-item.found
    ∙ ap (λ o. first_of o (option_map trigger_contents c.loop-item.found)) c.trigger_in.ensures)
    c.loop-item.invariant
