use Rattle.std.proofs.Common.{◌≡◌, ◌<◌, ◌++◌, length, map, reverse}
use Rattle.std.specs.List.{AllByRecursion, flat_map}
use Rattle.ra_explain.specs.RowLists.{behind_each, row_at, rows_from}
use Rattle.ra_explain.proofs.indices.rows_at.Given as goal

-- the rows so far, and those of the indices that are left
abbrev pub invariant-loop-index : goal.invariant-loop-index
invariant-loop-index l = record {
  within : AllByRecursion (λ k. k < length l.links) l.indices.items;
  rows : l.rows.items ++ flat_map (λ row. row)
      (reverse (map (row_at l.width l.truths) l.indices.items)) ≡ flat_map (λ row. row)
      (reverse (rows_from (behind_each l.width l.truths l.links) l.fn.place));
}

abbrev pub decreases-loop-index : goal.decreases-loop-index
decreases-loop-index l = length l.indices.items
