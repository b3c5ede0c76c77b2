use Rattle.ra_items.specs.Shapes.{run_shape, IsSmall}
use Rattle.ra_member.proofs.GrowthLemmas.{holds_at}
use Rattle.ra_items.proofs.shapes.item_shapes.Goals as goal

pub item_shape-requires : goal.item_shape-requires
item_shape-requires c =
    holds_at run_shape c.args.runs.now c.loop-run.run-index c.run-item.result c.loop-run-test.true
    c.run-item.is IsSmall c.requires
