use Rattle.std.proofs.Common.{◌≡◌, ℕ, ◌<◌, ◌≤◌, false, get_or}
use Rattle.ra_truths.specs.Comparisons.{truths_by}
use Rattle.ra_truths.proofs.truths.next_flip.Given as goal

-- so far each has the truth that was kept
abbrev pub invariant-loop-number : goal.invariant-loop-number
invariant-loop-number l = (k : ℕ) → l.fn.from ≤ k → k < l.number → get_or l.truths k false
    ≡ get_or (truths_by l.table.values l.comparisons) k false
