use Rattle.ra_truths.specs.Comparisons.{AreOver}
use Rattle.ra_table_tests.proofs.truths.comparisons_over.Given as goal

abbrev pub invariant-loop-sides : goal.invariant-loop-sides
invariant-loop-sides l = AreOver l.pool l.set
