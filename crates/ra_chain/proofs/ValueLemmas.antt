-- The values that conditions hand on: the rules have one solution.
use Rattle.std.proofs.Common.{◌≡◌, ◌≢◌, ℕ, zero, suc, ◌+◌, ◌<◌, ◌≤◌, ◌==◌, Bool, true, false, if◌then◌else◌, Option}
use Rattle.std.proofs.Common.{List, [], ◌∷◌, ◌++◌, length, take, drop, replicate, get_or, set, refl, ap, ap₂, sym}
use Rattle.std.proofs.Common.{subst, ◌∙◌, ◌⊎◌, inl, inr, arith, length-take, length-drop}
use Rattle.std.specs.List.{before_first}
use Rattle.std.proofs.lemmas.List.{get_or-set_same, get_or-set_other, get_or-take, get_or-drop, take-append-drop}
use Rattle.std.proofs.lemmas.List.{same_lists, get_or_default, length-replicate}
use Rattle.std.proofs.lemmas.Bool.{false≢true, cases_lt}
use Rattle.std.proofs.Math.ListN.{length-set}
use Rattle.std.proofs.Math.Seq.{take-suc}
use Rattle.ra_operand.specs.declared.operand.Operand.{Operand}
use Rattle.ra_condition.specs.declared.flag.Flag.{Flag}
use Rattle.ra_condition.specs.declared.flag.Flag.TheVariants.{AddSource, SubSource, AddAddress}
use Rattle.ra_condition.specs.declared.condition.Condition.{Condition}
use Rattle.ra_condition.specs.Flags.{combines, is_address, is_remember}
use Rattle.ra_condition.specs.Contents.{condition_at, flag_at}
use Rattle.ra_condition.specs.Chains.{pass_order}
use Rattle.ra_condition.proofs.OrderLemmas.{order_below}
use Rattle.ra_indirect.specs.Trees.{Tree, constant}
use Rattle.ra_chain.specs.Elaboration.{tree_at, operand_tree, pointer_of, last_remembered, recall_of, sum_after}
use Rattle.ra_chain.specs.Elaboration.{sum_of, joined, handed_on, value_by_rules, values_along, values_of, AreValues}
use Rattle.ra_chain.proofs.OrderPlaces.{turn_at, turns_differ, came_before, before_turn, turn_of}

-- the flags whose value the sum of the next condition takes or passes
abbrev pub carries : Flag → Bool
carries AddSource = true
carries SubSource = true
carries AddAddress = true
carries _ = false

pub carries_combines : (flag : Flag) → carries flag ≡ true → combines flag ≡ true
carries_combines AddSource holds = refl
carries_combines SubSource holds = refl
carries_combines AddAddress holds = refl
carries_combines _ holds = absurd (false≢true holds)

pub address_combines : (flag : Flag) → is_address flag ≡ true → combines flag ≡ true
address_combines AddAddress holds = refl
address_combines _ holds = absurd (false≢true holds)

-- two lists of values are the same at the places of the turns before k
abbrev pub AgreeBefore : List Condition → ℕ → List Tree → List Tree → Type 0
AgreeBefore cs k values values' =
    (m : ℕ) → m < k → tree_at values (turn_at cs m) ≡ tree_at values' (turn_at cs m)

module _ (cs : List Condition) (values values' : List Tree) where
  pointer_if : (i : ℕ) (b : Bool) → is_address (flag_at cs i) ≡ b → (b ≡ true → tree_at values i ≡ tree_at values' i)
      → (if is_address (flag_at cs i) then tree_at values i else constant 0) ≡
      (if is_address (flag_at cs i) then tree_at values' i else constant 0)
  pointer_if i true is same = rw is (same refl)
  pointer_if i false is same = rw is refl

  came : (k i : ℕ) → AgreeBefore cs k values values' → k < length (pass_order cs) → turn_at cs k ≡ suc i
      → combines (flag_at cs i) ≡ true → tree_at values i ≡ tree_at values' i
  came k i agree within is holds =
      let before = came_before cs k i within is (omega (arith, order_below cs k within)) holds in
      ap (tree_at values) (sym before.at) ∙ agree before.turn (omega (arith, before.next)) ∙ ap
      (tree_at values') before.at

  pointer_agree : (k j : ℕ) → AgreeBefore cs k values values' → k < length (pass_order cs) → turn_at cs k ≡ j
      → pointer_of cs values j ≡ pointer_of cs values' j
  pointer_agree k zero agree within is = refl
  pointer_agree k (suc i) agree within is =
      pointer_if i (is_address (flag_at cs i)) refl
      (λ holds. came k i agree within is (address_combines (flag_at cs i) holds))

  remembered_if : (b : Bool) (v v' before before' : Tree) → v ≡ v' → before ≡ before'
      → (if b then v else before) ≡ (if b then v' else before')
  remembered_if true v v' before before' same rest = same
  remembered_if false v v' before before' same rest = rest

  last_agree : (is : List ℕ)
      → ((m : ℕ) → m < length is → tree_at values (get_or is m 0) ≡ tree_at values' (get_or is m 0))
      → (before before' : Tree) → before ≡ before'
      → last_remembered cs values before is ≡ last_remembered cs values' before' is
  last_agree [] agree before before' same = same
  last_agree (i ∷ is) agree before before' same =
      last_agree is (λ m below. agree (suc m) (omega arith)) _ _
      (remembered_if (is_remember (flag_at cs i)) (tree_at values i) (tree_at values' i) before before'
      (agree 0 (omega arith)) same)

  turns_agree : (k : ℕ) → k ≤ length (pass_order cs) → AgreeBefore cs k values values' → (m : ℕ)
      → m < length (take k (pass_order cs))
      → tree_at values (get_or (take k (pass_order cs)) m 0) ≡ tree_at values' (get_or (take k (pass_order cs)) m 0)
  turns_agree k few agree m below =
      let less : m < k = omega (arith, length-take k (pass_order cs)) in
      let here : get_or (take k (pass_order cs)) m 0 ≡ turn_at cs m = get_or-take k (pass_order cs) m 0 less in
      ap (tree_at values) here ∙ agree m less ∙ ap (tree_at values') (sym here)

  recall_agree : (k j : ℕ) → AgreeBefore cs k values values' → k < length (pass_order cs) → turn_at cs k ≡ j
      → recall_of cs values j ≡ recall_of cs values' j
  recall_agree k j agree within is =
      let turns : before_first (λ i. i == j) (pass_order cs) ≡ take k (pass_order cs) = ap
      (λ n. before_first (λ i. i == n) (pass_order cs)) (sym is) ∙ before_turn cs k within in
      ap (last_remembered cs values (constant 0)) turns
      ∙ last_agree (take k (pass_order cs)) (turns_agree k (omega arith) agree) (constant 0) (constant 0) refl
      ∙ ap (last_remembered cs values' (constant 0)) (sym turns)

  sum_step : (flag : Flag) (v v' : Tree) (s s' : Option Tree) → (carries flag ≡ true → v ≡ v')
      → (carries flag ≡ true → s ≡ s') → sum_after flag v s ≡ sum_after flag v' s'
  sum_step AddSource v v' s s' value sum = ap₂ (sum_after AddSource) (value refl) (sum refl)
  sum_step SubSource v v' s s' value sum = ap₂ (sum_after SubSource) (value refl) (sum refl)
  sum_step AddAddress v v' s s' value sum = sum refl
  sum_step _ v v' s s' value sum = refl

  sum_agree : (j k : ℕ) → AgreeBefore cs k values values' → k < length (pass_order cs) → turn_at cs k ≡ j
      → sum_of cs values j ≡ sum_of cs values' j
  sum_agree zero k agree within is = refl
  sum_agree (suc i) k agree within is =
      sum_step (flag_at cs i) (tree_at values i) (tree_at values' i) (sum_of cs values i) (sum_of cs values' i)
      (λ holds. came k i agree within is (carries_combines (flag_at cs i) holds))
      (λ holds. let before = came_before cs k i within is (omega (arith, order_below cs k within))
      (carries_combines (flag_at cs i) holds) in sum_agree i before.turn
      (λ m below. agree m (omega (arith, before.next))) (omega (arith, before.next)) before.at)

  operand_agree : (operand : Operand) (p p' r r' : Tree) → p ≡ p' → r ≡ r'
      → operand_tree operand p r ≡ operand_tree operand p' r'
  operand_agree operand p p' r r' pointers recalls = ap₂ (operand_tree operand) pointers recalls

  -- the rules read of the values those of earlier turns alone
  pub rules_agree : (k j : ℕ) → AgreeBefore cs k values values' → k < length (pass_order cs) → turn_at cs k ≡ j
      → value_by_rules cs values j ≡ value_by_rules cs values' j
  rules_agree k j agree within is =
      let pointers = pointer_agree k j agree within is in
      let recalls = recall_agree k j agree within is in
      let lefts = operand_agree (condition_at cs j).left _ _ _ _ pointers recalls in
      let rights = operand_agree (condition_at cs j).right _ _ _ _ pointers recalls in
      ap₂ (handed_on (flag_at cs j)) (sum_agree j k agree within is) (ap₂ (joined (condition_at cs j).op) lefts rights)

module _ (cs : List Condition) where
  along_parts : (values : List Tree) (is js : List ℕ)
      → values_along cs values (is ++ js) ≡ values_along cs (values_along cs values is) js
  along_parts values [] js = refl
  along_parts values (i ∷ is) js = along_parts (set values i (value_by_rules cs values i)) is js

  along_length : (values : List Tree) (is : List ℕ) → length (values_along cs values is) ≡ length values
  along_length values [] = refl
  along_length values (i ∷ is) =
      along_length (set values i (value_by_rules cs values i)) is ∙ length-set values i (value_by_rules cs values i)

  along_keeps : (values : List Tree) (is : List ℕ) (j : ℕ) → ((m : ℕ) → m < length is → get_or is m 0 ≢ j)
      → tree_at (values_along cs values is) j ≡ tree_at values j
  along_keeps values [] j others = refl
  along_keeps values (i ∷ is) j others =
      along_keeps (set values i (value_by_rules cs values i)) is j (λ m below. others (suc m) (omega arith))
      ∙ get_or-set_other values i j (value_by_rules cs values i) (constant 0)
      (λ same. others 0 (omega arith) (sym same))

  -- the values after so many turns
  abbrev after : ℕ → List Tree
  after k = values_along cs (replicate (length cs) (constant 0)) (take k (pass_order cs))

  after_length : (k : ℕ) → length (after k) ≡ length cs
  after_length k =
      along_length (replicate (length cs) (constant 0)) (take k (pass_order cs)) ∙ length-replicate (length cs)
      (constant 0)

  after_more : (k : ℕ) → k < length (pass_order cs)
      → after (suc k) ≡ set (after k) (turn_at cs k) (value_by_rules cs (after k) (turn_at cs k))
  after_more k within =
      ap (values_along cs (replicate (length cs) (constant 0))) (take-suc (pass_order cs) k 0 within)
      ∙ along_parts (replicate (length cs) (constant 0)) (take k (pass_order cs)) (turn_at cs k ∷ [])

  whole : (k : ℕ) → values_of cs ≡ values_along cs (after k) (drop k (pass_order cs))
  whole k =
      ap (values_along cs (replicate (length cs) (constant 0))) (sym (take-append-drop k (pass_order cs)))
      ∙ along_parts (replicate (length cs) (constant 0)) (take k (pass_order cs)) (drop k (pass_order cs))

  -- what a turn found stays
  kept : (k m : ℕ) → m < k → k ≤ length (pass_order cs)
      → tree_at (after k) (turn_at cs m) ≡ tree_at (values_of cs) (turn_at cs m)
  kept k m less few =
      sym (ap (λ vs. tree_at vs (turn_at cs m)) (whole k) ∙ along_keeps (after k) (drop k (pass_order cs))
      (turn_at cs m)
      (λ x below same. turns_differ cs m (k + x) (omega arith) (omega (arith, length-drop k (pass_order cs)))
      (sym same ∙ get_or-drop k (pass_order cs) x 0)))

  found : (k : ℕ) → k < length (pass_order cs)
      → tree_at (values_of cs) (turn_at cs k) ≡ value_by_rules cs (values_of cs) (turn_at cs k)
  found k within =
      let place = order_below cs k within in
      sym (kept (suc k) k (omega arith) (omega arith))
      ∙ ap (λ vs. tree_at vs (turn_at cs k)) (after_more k within)
      ∙ get_or-set_same (after k) (turn_at cs k) (value_by_rules cs (after k) (turn_at cs k)) (constant 0)
      (omega (arith, after_length k))
      ∙ rules_agree cs (after k) (values_of cs) k (turn_at cs k) (λ m less. kept k m less (omega arith)) within refl

  -- the values of a group are what the rules make of them
  pub values_by_rules : AreValues cs (values_of cs)
  values_by_rules = record {
    as_many = along_length (replicate (length cs) (constant 0)) (pass_order cs) ∙ length-replicate (length cs)
        (constant 0);
    each = λ j inside.
        (let there = turn_of cs j inside in subst
        (λ i. tree_at (values_of cs) i ≡ value_by_rules cs (values_of cs) i) there.at (found there.turn there.within));
  }

  module _ (values : List Tree) (are : AreValues cs values) where
    agree_step : (k : ℕ) → k < length (pass_order cs) → AgreeBefore cs k values (values_of cs)
        → tree_at values (turn_at cs k) ≡ tree_at (values_of cs) (turn_at cs k)
    agree_step k within agree =
        are.each (turn_at cs k) (order_below cs k within)
        ∙ rules_agree cs values (values_of cs) k (turn_at cs k) agree within refl
        ∙ sym (found k within)

    agree_by : (k m : ℕ) → AgreeBefore cs k values (values_of cs) → k < length (pass_order cs) → m < suc k
        → (m < k) ⊎ (k ≤ m) → tree_at values (turn_at cs m) ≡ tree_at (values_of cs) (turn_at cs m)
    agree_by k m agree within below (inl less) = agree m less
    agree_by k m agree within below (inr more) =
        let last : k ≡ m = omega arith in
        subst (λ n. tree_at values (turn_at cs n) ≡ tree_at (values_of cs) (turn_at cs n)) last
        (agree_step k within agree)

    agree_all : (k : ℕ) → k ≤ length (pass_order cs) → AgreeBefore cs k values (values_of cs)
    agree_all zero few m below = absurd (omega arith)
    agree_all (suc k) few m below = agree_by k m (agree_all k (omega arith)) (omega arith) below (cases_lt m k)

    -- and no other values are
    pub only_values : values ≡ values_of cs
    only_values =
        same_lists values (values_of cs) (are.as_many ∙ sym values_by_rules.as_many)
        (λ j d below.
        (let there = turn_of cs j (omega (arith, are.as_many)) in get_or_default values j d (constant 0) below ∙
        (let same : tree_at values j ≡ tree_at (values_of cs) j = subst
        (λ i. tree_at values i ≡ tree_at (values_of cs) i) there.at
        (agree_all (length (pass_order cs)) (omega arith) there.turn there.within) in same) ∙ get_or_default
        (values_of cs) j (constant 0) d (omega (arith, are.as_many, values_by_rules.as_many))))
