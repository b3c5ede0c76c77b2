use Rattle.std.proofs.Common.{map, sum_by, take}
use Rattle.std.specs.List.{flat_map}
use Rattle.ra_set.specs.Contents.{item_contents}
use Rattle.ra_set.specs.Limits.{item_conditions}
use Rattle.ra_meaning.specs.Order.{trees_in_item}
use Rattle.ra_member.specs.Plans.{GrowsWithin}
use Rattle.ra_counts.proofs.planted.plant_items.Given as goal

-- the items so far have their cells and tracked masks
abbrev pub invariant-loop-item : goal.invariant-loop-item
invariant-loop-item l =
    let items = map item_contents (take l.item-index l.items) in
    GrowsWithin l.fn.pool l.pool (flat_map trees_in_item items) (sum_by item_conditions items)
