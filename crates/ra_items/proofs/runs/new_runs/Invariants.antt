use Rattle.std.proofs.Common.{map, take}
use Rattle.ra_set.specs.Contents.{item_contents}
use Rattle.ra_items.specs.Planning.{AreWaiting}
use Rattle.ra_items.proofs.runs.new_runs.Given as goal

abbrev pub invariant-loop-item : goal.invariant-loop-item
invariant-loop-item l = AreWaiting l.fn.pool l.pool (map item_contents (take l.item-index l.items)) l.runs.items
