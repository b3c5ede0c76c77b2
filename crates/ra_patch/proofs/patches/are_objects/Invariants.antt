use Rattle.std.proofs.Common.{◌≡◌, map, drop}
use Rattle.serde_json.specs.View.{view}
use Rattle.ra_patch.specs.Patches as spec
use Rattle.ra_patch.proofs.patches.are_objects.Given as goal

-- the items so far are objects
abbrev pub invariant-loop-item : goal.invariant-loop-item
invariant-loop-item l = spec.are_objects (map view l.items) ≡ spec.are_objects (map view (drop l.item-index l.items))
