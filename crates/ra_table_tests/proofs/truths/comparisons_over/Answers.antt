use Rattle.std.proofs.Common.{rules}
use Rattle.ra_truths.proofs.ComparisonLemmas.{over_interned}
use Rattle.ra_table_tests.proofs.truths.comparisons_over.Goals as goal

pub loop-sides-preserved : goal.loop-sides-preserved
loop-sides-preserved c =
    over_interned c.args.pool.now c.loop-sides.set c.intern.new.self c.comparison-comparison.result
    c.in_ok-intern.field-0
    c.loop-sides.invariant (c.is_over.ensures (search rules)) c.in_ok-intern.ensures.ok
