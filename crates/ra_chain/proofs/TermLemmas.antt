-- The sum of legacy terms, a term more.
use Rattle.std.proofs.Common.{◌≡◌, ℕ, ◌+◌, ◌<◌, Option, None, Some, List, [], ◌∷◌, ◌++◌, length, take, get_or, refl, ap}
use Rattle.std.proofs.Common.{subst, sym, ◌∙◌}
use Rattle.std.proofs.lemmas.List.{take_more}
use Rattle.ra_operand.specs.declared.op.Op.TheVariants.{Add}
use Rattle.ra_condition.specs.declared.part.Term.{Term}
use Rattle.ra_indirect.specs.declared.node.Node.{Node}
use Rattle.ra_indirect.specs.Trees.{Tree, constant, join}
use Rattle.ra_indirect.specs.Interned.{IsPool}
use Rattle.ra_chain.specs.Elaboration.{term_tree, terms_tree, summed_from, added}
use Rattle.ra_chain.specs.Planting.{Plants}
use Rattle.ra_chain.specs.Sides.{sum_trees}
use Rattle.ra_chain.specs.Terms.{terms_sum, PlantsTerms}
use Rattle.ra_chain.proofs.PlantLemmas.{grows_none, grows_through}
use Rattle.ra_chain.proofs.SideLemmas.{grows_added}

summed_more : (sum : Tree) (ts : List Term) (t : Term) → Some (summed_from sum (ts ++ t ∷ []))
    ≡ Some (added (Some (summed_from sum ts)) (term_tree t))
summed_more sum [] t = refl
summed_more sum (u ∷ ts) t = summed_more (join Add sum (term_tree u)) ts t

terms_more : (ts : List Term) (t : Term) → terms_sum (ts ++ t ∷ []) ≡ Some (added (terms_sum ts) (term_tree t))
terms_more [] t = refl
terms_more (u ∷ ts) t = summed_more (term_tree u) ts t

-- one term more
pub plants_term : (first a b c : List Node) (terms : List Term) (k : ℕ) (d : Term) → k
    < length terms → (sum : Option ℕ) (product more : ℕ) → PlantsTerms first a (terms_sum
    (take k terms)) sum → Plants a b (term_tree (get_or terms k d) ∷ []) (term_tree (get_or terms k
    d)) product → Plants b c [] (added (terms_sum (take k terms)) (term_tree (get_or terms k d)))
    more → PlantsTerms first c (terms_sum (take (k + 1) terms)) (Some more)
plants_term first a b c terms k d within sum product more before one last =
    subst (λ s. PlantsTerms first c s (Some more))
    (sym (ap terms_sum (take_more terms k d within) ∙ terms_more (take k terms) (get_or terms k d)))
    (record {
      grows = grows_added first b c (terms_sum (take k terms)) (term_tree (get_or terms k d))
          (grows_through first a b (sum_trees (terms_sum (take k terms)))
          (term_tree (get_or terms k d) ∷ []) before.grows one.grows) last.grows;
      spells = last.spells;
    })
