use Rattle.std.proofs.Common.{◌≡◌, map, take}
use Rattle.ra_set.specs.Contents.{item_contents}
use Rattle.ra_set.specs.Names.{zero_name}
use Rattle.ra_set.proofs.parse.zero_names.Given as goal

abbrev pub invariant-loop-item : goal.invariant-loop-item
invariant-loop-item l = l.names.items ≡ map (λ item. zero_name) (map item_contents (take l._item-index l.items))
