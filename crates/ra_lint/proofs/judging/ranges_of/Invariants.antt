use Rattle.ra_lint.proofs.JudgingLemmas.{IsRanged}
use Rattle.ra_lint.proofs.judging.ranges_of.Given as goal

-- the ranges of the nodes so far
abbrev pub invariant-loop-number : goal.invariant-loop-number
invariant-loop-number l = IsRanged l.pool l.ranges.items l.number
