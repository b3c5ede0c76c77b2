use Rattle.std.proofs.Common.{◌≡◌, map, take}
use Rattle.serde_json.specs.View.{view}
use Rattle.ra_patch.specs.declared.item_kind.ItemKind.TheVariants.{Achievement}
use Rattle.ra_patch.specs.Official as spec
use Rattle.ra_patch.specs.Patches.{items_of}
use Rattle.ra_patch.proofs.scope.unofficial_of.Given as goal

-- the items of the objects so far are counted
abbrev pub invariant-loop-holder : goal.invariant-loop-holder
invariant-loop-holder l =
    l.count ≡ spec.unofficial_among (items_of Achievement (map view (take l.holder-index l.holders)))
