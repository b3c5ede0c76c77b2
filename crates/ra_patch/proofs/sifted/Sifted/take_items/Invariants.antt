use Rattle.std.proofs.Common.{◌≤◌, ◌+◌, ◌++◌, List, map, take}
use Rattle.serde_json.specs.Data.{Data}
use Rattle.serde_json.specs.View.{view}
use Rattle.ra_patch.specs.Official.{wanted}
use Rattle.ra_patch.specs.Sifting.{Sifts}
use Rattle.ra_patch.specs.declared.sifted.Sifted.{Sifted}
use Rattle.ra_patch.proofs.sifted.Sifted.take_items.Given as goal

-- the items so far were read
abbrev pub invariant-loop-item : goal.invariant-loop-item
invariant-loop-item l = record {
  counted : l.self.count ≤ l.fn.self.count + l.item-index;
  sifts : (start : Sifted) (before : List Data) → Sifts l.kind start before l.fn.self
      → Sifts l.kind start (before ++ wanted l.scope (map view (take l.item-index l.items))) l.self;
}
