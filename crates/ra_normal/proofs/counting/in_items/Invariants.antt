use Rattle.std.proofs.Common.{◌≡◌, take}
use Rattle.std.specs.List.{sum_by}
use Rattle.ra_set.specs.Contents.{item_contents}
use Rattle.ra_normal.specs.Counting.{legacy_in_item}
use Rattle.ra_normal.proofs.counting.in_items.Given as goal

-- the legacy parts of the items so far
abbrev pub invariant-loop-item : goal.invariant-loop-item
invariant-loop-item l = l.count ≡ sum_by (λ item. legacy_in_item (item_contents item)) (take l.item-index l.items)
