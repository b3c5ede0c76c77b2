use Rattle.std.proofs.Common.{map, take}
use Rattle.serde_json.specs.View.{view}
use Rattle.ra_patch.specs.Official.{wanted}
use Rattle.ra_patch.specs.Patches.{items_of}
use Rattle.ra_patch.specs.Sifting.{Sifts}
use Rattle.ra_patch.proofs.sifted.Sifted.take_list.Given as goal

-- the items of the objects so far were read, as far as they are looked at
abbrev pub invariant-loop-holder : goal.invariant-loop-holder
invariant-loop-holder l =
    Sifts l.kind l.fn.self (wanted l.scope (items_of l.kind (map view (take l.holder-index l.holders)))) l.self
