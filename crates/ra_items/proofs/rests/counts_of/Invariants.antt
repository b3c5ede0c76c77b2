use Rattle.std.proofs.Common.{map, take}
use Rattle.ra_set.specs.Contents.{item_contents}
use Rattle.ra_items.specs.Rests.{HaveRooms}
use Rattle.ra_items.proofs.rests.counts_of.Given as goal

abbrev pub invariant-loop-item : goal.invariant-loop-item
invariant-loop-item l = HaveRooms (map item_contents (take l.item-index l.items)) l.counts.items
