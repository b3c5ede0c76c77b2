use Rattle.std.proofs.Common.{inl, inr, arith, subst, sym}
use Rattle.std.proofs.lemmas.Bool.{cases_eq}
use Rattle.std.proofs.lemmas.List.{get_or_default}
use Rattle.ra_condition.specs.Contents.{condition_at, no_condition}
use Rattle.ra_chain.specs.Sides.{JoinsValues}
use Rattle.ra_evaluation_tests.proofs.trees.all_join.Goals as goal

-- src/tree_tests.rt:26:5
pub loop-condition-preserved : goal.loop-condition-preserved
loop-condition-preserved c k l = elim (cases_eq k c.loop-condition.condition-index) [
  | inl here ↦ subst (λ i. JoinsValues (condition_at c.args.conditions.now i)) (sym here)
      (subst JoinsValues (get_or_default c.args.conditions.now c.loop-condition.condition-index _
      no_condition
      (omega (arith, c.loop-condition-test.true, c.loop-condition.auto.condition-index-end)))
      (c.joins.ensures c.if-not-joins.false))
  | inr other ↦ c.loop-condition.invariant k (omega (arith, l, other))
]
