-- The pass over a group's conditions, in order: what stands when so many turns came.
use Rattle.std.proofs.Common.{◌≡◌, ℕ, suc, ◌*◌, ◌<◌, Bool, true, false, not, if◌then◌else◌, cond, None, Some, List}
use Rattle.std.proofs.Common.{[], ◌∷◌, ◌++◌, length, take, filter, get_or, refl, ap, subst, sym, ◌∙◌, ◌⊎◌, inl, inr}
use Rattle.std.proofs.Common.{arith, length-append}
use Rattle.std.proofs.lemmas.List.Concat.{flat_map-append}
use Rattle.std.proofs.lemmas.List.Filters.{length-filter_both}
use Rattle.std.proofs.lemmas.List.FromFn.{length-range_with_len}
use Rattle.std.proofs.lemmas.Bool.{false≢true, cases_eq}
use Rattle.std.proofs.Math.Seq.{take-suc, take-length}
use Rattle.ra_condition.specs.declared.flag.Flag.{Flag}
use Rattle.ra_condition.specs.declared.flag.Flag.TheVariants.{AddSource, SubSource, AddAddress, Remember}
use Rattle.ra_condition.specs.declared.condition.Condition.{Condition}
use Rattle.ra_condition.specs.Flags.{hands_on, combines, is_remember}
use Rattle.ra_condition.specs.Contents.{flag_at}
use Rattle.ra_condition.specs.Chains.{in_pause_chain, places, pass_order}
use Rattle.ra_condition.proofs.OrderLemmas.{order_below}
use Rattle.ra_indirect.specs.declared.node.Node.{Node}
use Rattle.ra_indirect.specs.Trees.{Tree, constant}
use Rattle.ra_indirect.specs.Pools.{Spells}
use Rattle.ra_indirect.specs.Interned.{IsPool}
use Rattle.ra_indirect.specs.Growing.{GrowsBy}
use Rattle.ra_chain.specs.declared.trees.Passed.{Passed}
use Rattle.ra_chain.specs.Elaboration.{tree_at, last_remembered, sum_of, left_operand, added, values_of, left_of}
use Rattle.ra_chain.specs.Elaboration.{right_of}
use Rattle.ra_chain.specs.Occurrence.{trees_in_group}
use Rattle.ra_chain.specs.Planting.{SpellsOrZero, SpellsSum, IsKept, IsCarried}
use Rattle.ra_chain.specs.Sides.{IsSized, IsKnownBefore, TakesCondition}
use Rattle.ra_chain.specs.Elaborates.{trees_along, SpellsEach}
use Rattle.ra_chain.proofs.OrderPlaces.{turn_at, turns_differ, came_before, before_turn, turn_of}
use Rattle.ra_chain.proofs.PlantLemmas.{spells_more, grows_none, grows_through, kept_none, kept_through}
use Rattle.ra_chain.proofs.SideLemmas.{or_zero_more}

-- a condition that hands its value on has it on the left
hands_left : (cs : List Condition) (j : ℕ) → hands_on (flag_at cs j) ≡ true → left_of cs j ≡ tree_at (values_of cs) j
hands_left cs j holds =
    ap (λ b. if b then tree_at (values_of cs) j else added (sum_of cs (values_of cs) j)
    (left_operand cs (values_of cs) j)) holds

carried_hands : (flag : Flag) → IsCarried flag → hands_on flag ≡ true
carried_hands AddSource holds = refl
carried_hands SubSource holds = refl
carried_hands AddAddress holds = refl
carried_hands _ holds = absurd holds

carried_combines : (flag : Flag) → IsCarried flag → combines flag ≡ true
carried_combines AddSource holds = refl
carried_combines SubSource holds = refl
carried_combines AddAddress holds = refl
carried_combines _ holds = absurd holds

remember_hands : (flag : Flag) → is_remember flag ≡ true → hands_on flag ≡ true
remember_hands Remember holds = refl
remember_hands _ holds = absurd (false≢true holds)

-- the pass order has each condition once
pub order_length : (cs : List Condition) → length (pass_order cs) ≡ length cs
order_length cs =
    length-append (filter (in_pause_chain cs) (places cs)) (filter (λ j. not (in_pause_chain cs j)) (places cs))
    ∙ length-filter_both (in_pause_chain cs) (λ j. not (in_pause_chain cs j)) (λ j. refl) (places cs)
    ∙ length-range_with_len 0 (length cs)

-- what stands when the turns before k came
pub record IsRunning (cs : List Condition) (first : List Node) (k : ℕ) (passed : Passed)
    (nodes : List Node) : Type 0 where
  pub grows : GrowsBy first nodes (trees_along cs (take k (pass_order cs)))
  pub kept : IsKept first nodes (12 * k) (2 * k) (2 * k)
  pub lefts : (m : ℕ) → m < k → Spells nodes (get_or passed.lefts.items (turn_at cs m) 0) (left_of cs (turn_at cs m))
  pub rights : (m : ℕ) → m < k → Spells nodes (get_or passed.rights.items (turn_at cs m) 0) (right_of cs (turn_at cs m))
  pub sum : (m : ℕ) → suc m ≡ k → SpellsSum nodes passed.sum (sum_of cs (values_of cs) (turn_at cs m))
  pub recalled : SpellsOrZero nodes passed.recalled
      (last_remembered cs (values_of cs) (constant 0) (take k (pass_order cs)))
  pub sized : IsSized passed (length cs)

pub running_none : (cs : List Condition) (first : List Node) (passed : Passed) → IsPool first
    → IsSized passed (length cs) → passed.recalled ≡ None → IsRunning cs first 0 passed first
running_none cs first passed pool sized none = record {
  grows = grows_none first pool;
  kept = kept_none first (12 * 0) (2 * 0) (2 * 0) pool;
  lefts = λ m below. absurd (omega arith);
  rights = λ m below. absurd (omega arith);
  sum = λ m next. absurd (omega (arith, next));
  recalled = subst (λ o. SpellsOrZero first o (constant 0)) (sym none) refl;
  sized = sized;
}

last_more : (cs : List Condition) (before : Tree) (is : List ℕ) (j : ℕ)
    → last_remembered cs (values_of cs) before (is ++ j ∷ []) ≡
    (if is_remember (flag_at cs j) then tree_at (values_of cs) j else last_remembered cs (values_of cs) before is)
last_more cs before [] j = refl
last_more cs before (i ∷ is) j = last_more cs
    (if is_remember (flag_at cs i) then tree_at (values_of cs) i else before) is j

module _ (cs : List Condition) (first : List Node) (k : ℕ) (passed : Passed) (nodes : List Node)
    (within : k < length (pass_order cs)) (running : IsRunning cs first k passed nodes) where
  -- what the next condition needs is known
  pub running_known : IsKnownBefore cs (turn_at cs k) passed nodes
  running_known = record {
    value = λ i next carried. (
        let before = came_before cs k i within (sym next) (omega (arith, order_below cs k within))
        (carried_combines (flag_at cs i) carried) in
        subst (λ t. Spells nodes (get_or passed.lefts.items i 0) t)
        (hands_left cs i (carried_hands (flag_at cs i) carried))
        (subst (λ n. Spells nodes (get_or passed.lefts.items n 0) (left_of cs n)) before.at
        (running.lefts before.turn (omega (arith, before.next)))));
    sum = λ i next carried. (
        let before = came_before cs k i within (sym next) (omega (arith, order_below cs k within))
        (carried_combines (flag_at cs i) carried) in
        subst (λ n. SpellsSum nodes passed.sum (sum_of cs (values_of cs) n)) before.at
        (running.sum before.turn before.next));
    recalled = subst (λ is. SpellsOrZero nodes passed.recalled (last_remembered cs (values_of cs) (constant 0) is))
        (sym (before_turn cs k within)) running.recalled;
  }

  module _ (passed' : Passed) (nodes' : List Node)
      (takes : TakesCondition cs (turn_at cs k) passed passed' nodes nodes') (kept : IsKept nodes nodes' 12 2 2)
      (sized : IsSized passed' (length cs)) where
    order_more : take (suc k) (pass_order cs) ≡ take k (pass_order cs) ++ turn_at cs k ∷ []
    order_more = take-suc (pass_order cs) k 0 within

    either : (m : ℕ) → m < suc k → (m < k) ⊎ (m ≡ k)
    either m below = elim (cases_eq m k) [ inl same ↦ inr same | inr other ↦ inl (omega (arith, other)) ]

    left_by : (m : ℕ) → (m < k) ⊎ (m ≡ k)
        → Spells nodes' (get_or passed'.lefts.items (turn_at cs m) 0) (left_of cs (turn_at cs m))
    left_by m (inl early) =
        let same = takes.others (turn_at cs m) (turns_differ cs m k early within) in
        subst (λ n. Spells nodes' n (left_of cs (turn_at cs m))) (sym same.0)
        (spells_more nodes nodes' _ _ kept.front (running.lefts m early))
    left_by m (inr last) =
        subst (λ i. Spells nodes' (get_or passed'.lefts.items (turn_at cs i) 0) (left_of cs (turn_at cs i)))
        (sym last) takes.sides.left_too

    right_by : (m : ℕ) → (m < k) ⊎ (m ≡ k)
        → Spells nodes' (get_or passed'.rights.items (turn_at cs m) 0) (right_of cs (turn_at cs m))
    right_by m (inl early) =
        let same = takes.others (turn_at cs m) (turns_differ cs m k early within) in
        subst (λ n. Spells nodes' n (right_of cs (turn_at cs m))) (sym same.1)
        (spells_more nodes nodes' _ _ kept.front (running.rights m early))
    right_by m (inr last) =
        subst (λ i. Spells nodes' (get_or passed'.rights.items (turn_at cs i) 0) (right_of cs (turn_at cs i)))
        (sym last) takes.sides.right_too

    recalled_by : (b : Bool) → is_remember (flag_at cs (turn_at cs k)) ≡ b
        → SpellsOrZero nodes' (cond b (Some (get_or passed'.lefts.items (turn_at cs k) 0)) passed.recalled)
        (cond b (tree_at (values_of cs) (turn_at cs k))
        (last_remembered cs (values_of cs) (constant 0) (take k (pass_order cs))))
    recalled_by true holds =
        subst (λ t. Spells nodes' (get_or passed'.lefts.items (turn_at cs k) 0) t)
        (hands_left cs (turn_at cs k) (remember_hands (flag_at cs (turn_at cs k)) holds)) takes.sides.left_too
    recalled_by false goes = or_zero_more nodes nodes' passed.recalled _ kept.front running.recalled

    -- one turn more
    pub running_more : IsRunning cs first (suc k) passed' nodes'
    running_more = record {
      grows = subst (λ is. GrowsBy first nodes' (trees_along cs is)) (sym order_more)
          (subst (GrowsBy first nodes')
          (sym (flat_map-append (λ j. left_of cs j ∷ right_of cs j ∷ []) (take k (pass_order cs)) (turn_at cs k ∷ [])))
          (grows_through first nodes nodes' _ _ running.grows takes.sides.grows));
      kept = kept_through first nodes nodes' (12 * k) (2 * k) (2 * k) 12 2 2 (12 * suc k) (2 * suc k) (2 * suc k)
          (omega arith) (omega arith) (omega arith) running.kept kept;
      lefts = λ m below. left_by m (either m below);
      rights = λ m below. right_by m (either m below);
      sum = λ m next. (
          let same : k ≡ m = omega (arith, next) in
          subst (λ i. SpellsSum nodes' passed'.sum (sum_of cs (values_of cs) (turn_at cs i))) same takes.sum);
      recalled = subst (λ is. SpellsOrZero nodes' passed'.recalled (last_remembered cs (values_of cs) (constant 0) is))
          (sym order_more)
          (subst (λ o. SpellsOrZero nodes' o
          (last_remembered cs (values_of cs) (constant 0) (take k (pass_order cs) ++ turn_at cs k ∷ [])))
          (sym takes.recalled)
          (subst (SpellsOrZero nodes'
          (if is_remember (flag_at cs (turn_at cs k)) then Some
          (get_or passed'.lefts.items (turn_at cs k) 0) else passed.recalled))
          (sym (last_more cs (constant 0) (take k (pass_order cs)) (turn_at cs k)))
          (recalled_by (is_remember (flag_at cs (turn_at cs k))) refl)));
      sized = sized;
    }

module _ (cs : List Condition) (first : List Node) (passed : Passed) (nodes : List Node)
    (running : IsRunning cs first (length (pass_order cs)) passed nodes) where
  -- each condition has its nodes
  pub running_lefts : SpellsEach nodes passed.lefts.items (length cs) (left_of cs)
  running_lefts = record {
    as_many = running.sized.lefts_too;
    each = λ j inside.
        (let there = turn_of cs j inside in subst
        (λ i. Spells nodes (get_or passed.lefts.items i 0) (left_of cs i)) there.at
        (running.lefts there.turn there.within));
  }

  pub running_rights : SpellsEach nodes passed.rights.items (length cs) (right_of cs)
  running_rights = record {
    as_many = running.sized.rights_too;
    each = λ j inside.
        (let there = turn_of cs j inside in subst
        (λ i. Spells nodes (get_or passed.rights.items i 0) (right_of cs i)) there.at
        (running.rights there.turn there.within));
  }

  pub running_grows : GrowsBy first nodes (trees_in_group cs)
  running_grows = subst (λ is. GrowsBy first nodes (trees_along cs is)) (take-length (pass_order cs)) running.grows
