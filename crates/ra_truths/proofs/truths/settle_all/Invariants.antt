use Rattle.std.proofs.Common.{◌≡◌, ℕ, ◌-◌, ◌<◌, ◌≤◌, false, get_or, length}
use Rattle.ra_truths.specs.Comparisons.{truths_by}
use Rattle.ra_truths.specs.Settling.{Settles}
use Rattle.ra_truths.proofs.truths.settle_all.Given as goal

-- those before the place have their wanted truths
abbrev pub invariant-loop-at : goal.invariant-loop-at
invariant-loop-at l = record {
  settles : Settles (truths_by l.table.values l.comparisons) l.fn.kept l.kept;
  most : l.at ≤ length l.comparisons;
  done : (k : ℕ) → k < l.at → get_or l.kept.truths k false
      ≡ get_or (truths_by l.table.values l.comparisons) k false;
}

abbrev pub decreases-loop-at : goal.decreases-loop-at
decreases-loop-at l = length l.comparisons - l.at
