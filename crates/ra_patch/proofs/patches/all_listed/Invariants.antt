use Rattle.std.proofs.Common.{◌≡◌, map, drop}
use Rattle.serde_json.specs.View.{view}
use Rattle.ra_patch.specs.Patches as spec
use Rattle.ra_patch.proofs.patches.all_listed.Given as goal

-- the objects so far have the list
abbrev pub invariant-loop-holder : goal.invariant-loop-holder
invariant-loop-holder l =
    spec.all_listed l.kind (map view l.holders) ≡ spec.all_listed l.kind (map view (drop l.holder-index l.holders))
