-- The sum of legacy terms, as far as it goes: docs/DEFINITIONS.md, "Trees of a group".
use Rattle.std.specs.Prelude.{ℕ, Option, None, Some, List, [], ◌∷◌}
use Rattle.ra_condition.specs.declared.part.Term.{Term}
use Rattle.ra_indirect.specs.declared.node.Node.{Node}
use Rattle.ra_indirect.specs.Trees.{Tree}
use Rattle.ra_indirect.specs.Growing.{GrowsBy}
use Rattle.ra_chain.specs.Elaboration.{term_tree, summed_from}
use Rattle.ra_chain.specs.Planting.{SpellsSum}
use Rattle.ra_chain.specs.Sides.{sum_trees}

-- the sum of terms, if there are some
abbrev pub terms_sum : List Term → Option Tree
terms_sum [] = None
terms_sum (t ∷ ts) = Some (summed_from (term_tree t) ts)

-- the pool grows by the sum, and then the node spells it
pub record PlantsTerms (old new : List Node) (sum : Option Tree) (number : Option ℕ) : Type 0 where
  pub grows : GrowsBy old new (sum_trees sum)
  pub spells : SpellsSum new number sum
