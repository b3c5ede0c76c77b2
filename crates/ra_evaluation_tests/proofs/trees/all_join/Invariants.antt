use Rattle.std.proofs.Common.{ℕ, ◌<◌}
use Rattle.ra_condition.specs.Contents.{condition_at}
use Rattle.ra_chain.specs.Sides.{JoinsValues}
use Rattle.ra_evaluation_tests.proofs.trees.all_join.Given as goal

-- the conditions so far join
abbrev pub invariant-loop-condition : goal.invariant-loop-condition
invariant-loop-condition l = (k : ℕ) → k < l.condition-index → JoinsValues (condition_at l.conditions k)
