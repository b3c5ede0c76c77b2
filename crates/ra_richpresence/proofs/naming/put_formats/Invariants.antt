use Rattle.std.proofs.Common.{[], ◌≤◌, length, map, drop}
use Rattle.ra_richpresence.specs.Meanings.{FindsNames}
use Rattle.ra_richpresence.proofs.naming.put_formats.Given as goal

abbrev pub invariant-loop-at : goal.invariant-loop-at
invariant-loop-at l = record {
  within : l.at ≤ length l.formats;
  finds : FindsNames [] 0 (map (λ f. (f.0.items, f.1)) (drop l.at l.formats)) l.names;
}

abbrev pub decreases-loop-at : goal.decreases-loop-at
decreases-loop-at l = l.at
