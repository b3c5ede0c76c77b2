use Rattle.std.proofs.Common.{ℕ, List, [], ◌≤◌, length, map, drop}
use Rattle.ra_value_format.specs.declared.format.Format.{Format}
use Rattle.ra_richpresence.specs.Meanings.{FindsNames}
use Rattle.ra_richpresence.specs.Parts.{lookup_contents}
use Rattle.ra_richpresence.proofs.naming.put_lookups.Given as goal

abbrev pub invariant-loop-at : goal.invariant-loop-at
invariant-loop-at l = record {
  within : l.at ≤ length l.lookups;
  finds : (formats : List (List ℕ × Format)) → FindsNames [] 0 formats l.fn.names
      → FindsNames (map lookup_contents (drop l.at l.lookups)) l.at formats l.names;
}

abbrev pub decreases-loop-at : goal.decreases-loop-at
decreases-loop-at l = l.at
