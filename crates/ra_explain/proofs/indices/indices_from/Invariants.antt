use Rattle.std.proofs.Common.{◌≡◌, ◌≤◌, ◌<◌, ◌++◌, ℕ, List, Bool, length, map}
use Rattle.std.specs.List.{AllByRecursion}
use Rattle.ra_explain.specs.RowLists.{behind_each, row_at, rows_from}
use Rattle.ra_explain.proofs.indices.indices_from.Given as goal

-- the rows of the indices so far, and those from the place behind them
abbrev pub invariant-loop-at : goal.invariant-loop-at
invariant-loop-at l = record {
  there : l.at ≤ length l.links;
  within : AllByRecursion (λ k. k < length l.links) l.indices.items;
  rows : (width : ℕ) (truths : List Bool) → map (row_at width truths) l.indices.items
      ++ rows_from (behind_each width truths l.links) l.at
      ≡ rows_from (behind_each width truths l.links) l.fn.place;
}

abbrev pub decreases-loop-at : goal.decreases-loop-at
decreases-loop-at l = l.at
