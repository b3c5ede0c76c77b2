use Rattle.std.proofs.Common.{◌≡◌, ◌+◌, ◌*◌, ◌≤◌, ◌^◌, ◌++◌, drop, sum_by}
use Rattle.ra_progress.specs.Layout.{item_length}
use Rattle.ra_runtime.specs.Keeping.{item_places}
use Rattle.ra_runtime.proofs.kept.places_of.Given as goal

-- the places so far, and those of the rest
abbrev pub invariant-loop-k : goal.invariant-loop-k
invariant-loop-k l = record {
  places : l.places.items ++ item_places l.at (drop l.k l.items) ≡ item_places 20 l.items;
  at : l.at + sum_by item_length (drop l.k l.items) ≡ 20 + sum_by item_length l.items;
  most : l.at ≤ 20 + l.k * 2 ^ 36;
}
