use Rattle.std.proofs.Common.{◌≡◌, take}
use Rattle.std.specs.List.{sum_by}
use Rattle.ra_set.specs.Contents.{item_contents}
use Rattle.ra_set.specs.Limits.{item_conditions}
use Rattle.ra_set.proofs.counting.in_items.Given as goal

abbrev pub invariant-loop-item : goal.invariant-loop-item
invariant-loop-item l = l.count ≡ sum_by (λ item. item_conditions (item_contents item)) (take l.item-index l.items)
