use Rattle.std.proofs.Common.{◌≡◌, ◌≤◌, ◌+◌, ℕ, List, Bool, length}
use Rattle.ra_explain.specs.RowLists.{behind_each, rows_from}
use Rattle.ra_explain.proofs.indices.count_from.Given as goal

-- the rows so far, and those from the place behind them, are all
abbrev pub invariant-loop-at : goal.invariant-loop-at
invariant-loop-at l = record {
  there : l.at ≤ length l.links;
  few : l.count + l.at ≤ l.fn.place;
  rows : (width : ℕ) (truths : List Bool) → length (rows_from (behind_each width truths l.links)
      l.fn.place) ≡ l.count + length (rows_from (behind_each width truths l.links) l.at);
}

abbrev pub decreases-loop-at : goal.decreases-loop-at
decreases-loop-at l = l.at
