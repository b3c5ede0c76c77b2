use Rattle.std.proofs.Common.{◌≡◌, map, drop}
use Rattle.serde_json.specs.View.{view}
use Rattle.ra_patch.specs.Faults.{faults_from}
use Rattle.ra_patch.specs.Checks.{faults_by}
use Rattle.ra_patch.proofs.check.check_items.Given as goal

-- the faults that are left are those from the item on
abbrev pub invariant-loop-item : goal.invariant-loop-item
invariant-loop-item l = record {
  counted : l.index ≡ l.item-index;
  left : faults_from (faults_by l.check) 0 (map view l.items) ≡ faults_from (faults_by l.check) l.index (map view (drop
      l.item-index l.items));
}
