use Rattle.std.proofs.Common.{[], length, sum_by, ◌∙◌, ap}
use Rattle.std.specs.List.{flat_map}
use Rattle.ra_set.specs.Contents.{set_contents}
use Rattle.ra_set.specs.Limits.{item_conditions}
use Rattle.ra_member.specs.Plans.{GrowsWithin}
use Rattle.ra_meaning.specs.Order.{trees_in_item}
use Rattle.ra_counts.proofs.CountLemmas.{cells_counted, tracked_counted}
use Rattle.ra_counts.proofs.counts.counts_of.Goals as goal

pub returns-clause-cells : goal.returns-clause-cells
returns-clause-cells c =
    let set = set_contents c.args.set.now in
    let items = c.plant_items.new.pool in
    let pool = c.counted_presence.new.pool in
    let first : GrowsWithin [] items (flat_map trees_in_item set.items) (sum_by item_conditions set.items) =
    rw (c.new-pool.ensures, c.deref.ensures.value) at c.in_ok-plant_items.ensures in
    let next = c.in_ok-_presence.ensures.grows in
    ap length c.cells-cells.ensures ∙ cells_counted set items pool c.in_ok-table.table c.in_ok-table.ensures first
    next

pub returns-clause-tracked : goal.returns-clause-tracked
returns-clause-tracked c =
    let set = set_contents c.args.set.now in
    let items = c.plant_items.new.pool in
    let pool = c.counted_presence.new.pool in
    let first : GrowsWithin [] items (flat_map trees_in_item set.items) (sum_by item_conditions set.items) =
    rw (c.new-pool.ensures, c.deref.ensures.value) at c.in_ok-plant_items.ensures in
    let next = c.in_ok-_presence.ensures.grows in
    ap length c.priors-tracked.ensures ∙ tracked_counted set items pool c.in_ok-table.table c.in_ok-table.ensures
    first next
