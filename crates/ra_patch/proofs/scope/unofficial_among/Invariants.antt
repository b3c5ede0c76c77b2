use Rattle.std.proofs.Common.{◌≡◌, map, take}
use Rattle.serde_json.specs.View.{view}
use Rattle.ra_patch.specs.Official as spec
use Rattle.ra_patch.proofs.scope.unofficial_among.Given as goal

-- the items so far are counted
abbrev pub invariant-loop-item : goal.invariant-loop-item
invariant-loop-item l = l.count ≡ spec.unofficial_among (map view (take l.item-index l.items))
