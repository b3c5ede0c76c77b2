-- One condition of a pass: what its calls leave in the pool.
use Rattle.std.proofs.Common.{◌≡◌, ℕ, suc, ◌<◌, if◌then◌else◌, Option, None, Some, List, [], ◌∷◌, length, get_or, ap}
use Rattle.std.proofs.Common.{subst, sym}
use Rattle.ra_condition.specs.declared.flag.Flag.{Flag}
use Rattle.ra_condition.specs.declared.condition.Condition.{Condition}
use Rattle.ra_condition.specs.Flags.{hands_on}
use Rattle.ra_condition.specs.Contents.{condition_at, flag_at}
use Rattle.ra_indirect.specs.declared.node.Node.{Node}
use Rattle.ra_indirect.specs.Trees.{Tree}
use Rattle.ra_indirect.specs.Pools.{Spells}
use Rattle.ra_indirect.specs.Interned.{IsPool}
use Rattle.ra_indirect.specs.Growing.{IsFront, GrowsBy}
use Rattle.ra_chain.specs.declared.trees.Passed.{Passed}
use Rattle.ra_chain.specs.Elaboration.{tree_at, operand_tree, pointer_of, recall_of, sum_after, sum_of, left_operand}
use Rattle.ra_chain.specs.Elaboration.{right_operand, added, values_of, left_of, right_of}
use Rattle.ra_chain.specs.Planting.{Names, Plants, PlantsSum, NamesSome, SpellsOrZero, SpellsSum, IsCarried}
use Rattle.ra_chain.specs.Sides.{PlantsSides, sum_trees, GrewByLeft, left_side, right_side, IsKnownBefore}
use Rattle.ra_chain.proofs.ValueLemmas.{values_by_rules}
use Rattle.ra_chain.proofs.PlantLemmas.{spells_named, names_more, grows_none, grows_again, grows_through}
use Rattle.ra_chain.proofs.SideLemmas.{sum_more, or_zero_more}

-- what spells may be named
pub named_sum : (nodes : List Node) (o : Option ℕ) (s : Option Tree) → IsPool nodes → SpellsSum nodes o s
    → NamesSome nodes o
named_sum nodes None s pool spells = tt
named_sum nodes (Some n) None pool spells = absurd spells
named_sum nodes (Some n) (Some t) pool spells = spells_named nodes n t pool spells

pub named_or_zero : (nodes : List Node) (o : Option ℕ) (t : Tree) → IsPool nodes → SpellsOrZero nodes o t
    → NamesSome nodes o
named_or_zero nodes None t pool spells = tt
named_or_zero nodes (Some n) t pool spells = spells_named nodes n t pool spells

pub named_more : (old new : List Node) (o : Option ℕ) → IsFront old new → NamesSome old o → NamesSome new o
named_more old new None front names = tt
named_more old new (Some n) front names = names_more old new n front names

sum_again : (nodes : List Node) (o : Option ℕ) (s : Option Tree) → IsPool nodes → SpellsSum nodes o s
    → GrowsBy nodes nodes (sum_trees s)
sum_again nodes None None pool spells = grows_none nodes pool
sum_again nodes None (Some t) pool spells = absurd spells
sum_again nodes (Some n) None pool spells = absurd spells
sum_again nodes (Some n) (Some t) pool spells = grows_again nodes n t pool spells

-- the sum names no new cell, and the left operand comes after it
pub grew_by_left : (a b c : List Node) (o : Option ℕ) (s : Option Tree) (l : Tree) → GrowsBy a b [] → SpellsSum b o s
    → GrowsBy b c (l ∷ []) → GrewByLeft a c s l
grew_by_left a b c o s l first spells second = record {
  alone = grows_through a b c [] (l ∷ []) first second;
  with_sum = grows_through a b c (sum_trees s) (l ∷ [])
      (grows_through a b b [] (sum_trees s) first (sum_again b o s first.pool spells)) second;
}

module _ (cs : List Condition) (j : ℕ) (within : j < length cs) where
  -- the trees of a condition, from its sum and its operands
  pub left_of_is : left_of cs j ≡ left_side (condition_at cs j) (sum_of cs (values_of cs) j)
      (left_operand cs (values_of cs) j) (right_operand cs (values_of cs) j)
  left_of_is =
      ap (λ v. if hands_on (flag_at cs j) then v else added (sum_of cs (values_of cs) j)
      (left_operand cs (values_of cs) j)) ((values_by_rules cs).each j within)

  pub right_of_is : right_of cs j ≡ right_side (condition_at cs j) (sum_of cs (values_of cs) j)
      (left_operand cs (values_of cs) j) (right_operand cs (values_of cs) j)
  right_of_is =
      ap (λ v. if hands_on (flag_at cs j) then v else right_operand cs (values_of cs) j)
      ((values_by_rules cs).each j within)

-- the sum of a condition, from the condition before it
module _ (cs : List Condition) (j i : ℕ) (next : suc i ≡ j) (flag : Flag) (same : flag ≡ flag_at cs i)
    (nodes : List Node) (pool : IsPool nodes) (passed : Passed) (known : IsKnownBefore cs j passed nodes) (x : ℕ)
    (left : x ≡ get_or passed.lefts.items i 0) where
  carried_value : IsCarried flag → Spells nodes x (tree_at (values_of cs) i)
  carried_value carried = subst (λ n. Spells nodes n (tree_at (values_of cs) i)) (sym left)
      (known.value i next (subst IsCarried same carried))

  carried_sum : IsCarried flag → SpellsSum nodes passed.sum (sum_of cs (values_of cs) i)
  carried_sum carried = known.sum i next (subst IsCarried same carried)

  pub named_value : IsCarried flag → Names nodes x
  named_value carried = spells_named nodes x (tree_at (values_of cs) i) pool (carried_value carried)

  pub named_carried_sum : IsCarried flag → NamesSome nodes passed.sum
  named_carried_sum carried = named_sum nodes passed.sum (sum_of cs (values_of cs) i) pool (carried_sum carried)

  pub sum_taken : (new : List Node) (after : Option ℕ)
      → ((v : Tree) (s : Option Tree) → (IsCarried flag → Spells nodes x v) →
      (IsCarried flag → SpellsSum nodes passed.sum s) → PlantsSum nodes new (sum_after flag v s) after)
      → PlantsSum nodes new (sum_of cs (values_of cs) j) after
  sum_taken new after takes =
      subst (λ n. PlantsSum nodes new (sum_of cs (values_of cs) n) after) next
      (subst (λ f. PlantsSum nodes new (sum_after f (tree_at (values_of cs) i) (sum_of cs (values_of cs) i)) after) same
      (takes (tree_at (values_of cs) i) (sum_of cs (values_of cs) i) carried_value carried_sum))

-- the trees of a condition, after its sum and its left operand
module _ (cs : List Condition) (j : ℕ) (within : j < length cs) (c : Condition) (same : c ≡ condition_at cs j)
    (a b d e : List Node) (pointer recalled sum : Option ℕ) (left n m : ℕ) where
  pub sides_taken : SpellsOrZero a pointer (pointer_of cs (values_of cs) j)
      → SpellsOrZero a recalled (recall_of cs (values_of cs) j) → PlantsSum a b (sum_of cs (values_of cs) j) sum
      → IsFront a b
      → ((p r : Tree) → SpellsOrZero b pointer p → SpellsOrZero b recalled r → Plants b d (operand_tree c.left p r ∷ [])
      (operand_tree c.left p r) left)
      → IsFront b d
      → ((base : List Node) (s : Option Tree) (l p r : Tree) → SpellsSum d sum s → Spells d left l
      → SpellsOrZero d pointer p → SpellsOrZero d recalled r → GrewByLeft base d s l → PlantsSides base e
      (left_side c s l (operand_tree c.right p r)) (right_side c s l (operand_tree c.right p r)) n m)
      → PlantsSides a e (left_of cs j) (right_of cs j) n m
  sides_taken pointed recalls sums front lefts front' sides =
      let s = sum_of cs (values_of cs) j in
      let p = pointer_of cs (values_of cs) j in
      let r = recall_of cs (values_of cs) j in
      let pointed' = or_zero_more a b pointer p front pointed in
      let recalls' = or_zero_more a b recalled r front recalls in
      let l = operand_tree c.left p r in
      let grown = lefts p r pointed' recalls' in
      let found = sides a s l p r (sum_more b d sum s front' sums.spells) grown.spells
      (or_zero_more b d pointer p front' pointed') (or_zero_more b d recalled r front' recalls')
      (grew_by_left a b d sum s l sums.grows sums.spells grown.grows) in
      subst (λ t. PlantsSides a e (left_of cs j) t n m) (sym (right_of_is cs j within))
      (subst (λ t. PlantsSides a e t
      (right_side (condition_at cs j) (sum_of cs (values_of cs) j) (left_operand cs (values_of cs) j)
      (right_operand cs (values_of cs) j)) n m) (sym (left_of_is cs j within))
      (subst (λ x. PlantsSides a e
      (left_side x (sum_of cs (values_of cs) j)
      (operand_tree x.left (pointer_of cs (values_of cs) j) (recall_of cs (values_of cs) j))
      (operand_tree x.right (pointer_of cs (values_of cs) j) (recall_of cs (values_of cs) j)))
      (right_side x (sum_of cs (values_of cs) j)
      (operand_tree x.left (pointer_of cs (values_of cs) j) (recall_of cs (values_of cs) j))
      (operand_tree x.right (pointer_of cs (values_of cs) j) (recall_of cs (values_of cs) j))) n m) same found))
