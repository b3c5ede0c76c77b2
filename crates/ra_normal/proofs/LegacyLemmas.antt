-- A legacy part and its condition part give the same number.
use Rattle.std.proofs.Common.{◌≡◌, ℕ, zero, suc, ◌+◌, ◌%◌, ◌^◌, ◌<◌, ◌≤◌, ◌==◌, Bool, true, false, not, cond, ◌&&◌}
use Rattle.std.proofs.Common.{◌||◌, Option, None, Some, List, [], ◌∷◌, ◌++◌, length, map, take, get_or, unwrap_or}
use Rattle.std.proofs.Common.{slice_index, refl, sym, ap, ap₂, ◌∙◌, arith}
use Rattle.std.specs.List.{list_any, list_all, before_first, range_with_len}
use Rattle.std.proofs.lemmas.Bool.{and_left}
use Rattle.std.proofs.lemmas.List.FromFn.{get_or-map-range_with_len}
use Rattle.ra_operand.specs.declared.operand.Operand.{Operand}
use Rattle.ra_condition.specs.declared.flag.Flag.{Flag}
use Rattle.ra_condition.specs.declared.flag.Flag.TheVariants.{Plain, AddSource, Measured}
use Rattle.ra_condition.specs.declared.condition.Condition.{Condition}
use Rattle.ra_condition.specs.declared.part.Term.{Term}
use Rattle.ra_condition.specs.Flags.{hands_on, is_address, is_remember, is_pause, is_reset, is_measured, is_measured_if}
use Rattle.ra_condition.specs.Contents.{condition_at, flag_at, Grouped}
use Rattle.ra_condition.specs.Chains.{places, pass_order}
use Rattle.ra_condition.proofs.Passes.{range_more}
use Rattle.ra_memory.specs.Image.{History}
use Rattle.ra_indirect.specs.Trees.{Tree, constant, join}
use Rattle.ra_operand.specs.declared.op.Op.TheVariants.{Add}
use Rattle.ra_chain.specs.Elaboration.{tree_at, operand_tree, pointer_of, last_remembered, recall_of, added, sum_of}
use Rattle.ra_chain.specs.Elaboration.{sum_after, left_operand, joined, handed_on, value_by_rules, values_of, left_of}
use Rattle.ra_chain.specs.Elaboration.{term_tree, times, summed_from, terms_tree}
use Rattle.ra_chain.specs.Terms.{terms_sum}
use Rattle.ra_chain.proofs.ValueLemmas.{values_by_rules}
use Rattle.ra_memref.specs.Values.{Start, value_of}
use Rattle.ra_group.specs.declared.form.Form.TheVariants.{InValue}
use Rattle.ra_group.specs.Equations.{Frame, frame_of, settled_at}
use Rattle.ra_group.specs.Outcome.{some_valid, all_valid, from_total, number_of, larger, offer, greatest, option_if}
use Rattle.ra_value.specs.Steps.{part_step}
use Rattle.ra_member.specs.Frames.{left_at, truth_at}
use Rattle.ra_lint.specs.Sound.{HasSmallConstants}
use Rattle.ra_lint.proofs.TreeLemmas.{value_in}
use Rattle.ra_normal.specs.Contents.{adding, term_condition, measured_zero, legacy_conditions}

-- ---- the conditions

pub adding_flag : (operand : Operand) (factor : Option Operand) → (adding operand factor).flag ≡ AddSource
adding_flag operand None = refl
adding_flag operand (Some factor) = refl

-- no condition is of a class without these three flags
no_class : (class : Flag → Bool) → class AddSource ≡ false → class Measured ≡ false → class Plain
    ≡ false → (terms : List Term) (j : ℕ) → class (flag_at (legacy_conditions terms) j) ≡ false
no_class class a m p [] zero = m
no_class class a m p [] (suc j) = p
no_class class a m p (t ∷ ts) zero = ap class (adding_flag t.operand t.factor) ∙ a
no_class class a m p (t ∷ ts) (suc j) = no_class class a m p ts j

condition_is : (terms : List Term) (i : ℕ) (d : Term) → i < length terms
    → condition_at (legacy_conditions terms) i ≡ term_condition (get_or terms i d)
condition_is [] i d within = absurd (omega (arith, within))
condition_is (t ∷ ts) zero d within = refl
condition_is (t ∷ ts) (suc i) d within = condition_is ts i d (omega (arith, within))

last_is : (terms : List Term) → condition_at (legacy_conditions terms) (length terms) ≡ measured_zero
last_is [] = refl
last_is (t ∷ ts) = last_is ts

pub many : (terms : List Term) → length (legacy_conditions terms) ≡ suc (length terms)
many [] = refl
many (t ∷ ts) = ap suc (many ts)

-- ---- the trees

summed_more : (sum : Tree) (ts : List Term) (i : ℕ) (d : Term) → i < length ts → summed_from sum
    (take (suc i) ts) ≡ join Add (summed_from sum (take i ts)) (term_tree (get_or ts i d))
summed_more sum [] i d within = absurd (omega (arith, within))
summed_more sum (t ∷ ts) zero d within = refl
summed_more sum (t ∷ ts) (suc i) d within = summed_more (join Add sum (term_tree t)) ts i d (omega (arith, within))

sum_more : (ts : List Term) (i : ℕ) (d : Term) → i < length ts → terms_sum (take (suc i) ts)
    ≡ Some (added (terms_sum (take i ts)) (term_tree (get_or ts i d)))
sum_more [] i d within = absurd (omega (arith, within))
sum_more (t ∷ ts) zero d within = refl
sum_more (t ∷ ts) (suc i) d within = ap Some (summed_more (term_tree t) ts i d (omega (arith, within)))

module _ (terms : List Term) where
  abbrev cs : List Condition
  cs = legacy_conditions terms

  pointer_none : (values : List Tree) (j : ℕ) → pointer_of cs values j ≡ constant 0
  pointer_none values zero = refl
  pointer_none values (suc i) =
      ap (λ b. cond b (tree_at values i) (constant 0)) (no_class is_address refl refl refl terms i)

  last_none : (values : List Tree) (is : List ℕ) → last_remembered cs values (constant 0) is ≡ constant 0
  last_none values [] = refl
  last_none values (i ∷ is) = ap (λ b. last_remembered cs values (cond b (tree_at values i)
      (constant 0)) is) (no_class is_remember refl refl refl terms i) ∙ last_none values is

  recall_none : (values : List Tree) (j : ℕ) → recall_of cs values j ≡ constant 0
  recall_none values j = last_none values (before_first (λ i. i == j) (pass_order cs))

  -- the operands of a condition as in a legacy term
  adding_joined : (operand : Operand) (factor : Option Operand)
      → joined (adding operand factor).op (operand_tree (adding operand factor).left (constant 0)
      (constant 0)) (operand_tree (adding operand factor).right (constant 0) (constant 0))
      ≡ times (operand_tree operand (constant 0) (constant 0)) factor
  adding_joined operand None = refl
  adding_joined operand (Some factor) = refl

  -- the value that a condition hands on is that of its term
  rule_is : (values : List Tree) (i : ℕ) (d : Term) → i < length terms → value_by_rules cs values i
      ≡ term_tree (get_or terms i d)
  rule_is values i d within =
      let here = condition_is terms i d within in
      let t = get_or terms i d in
      ap₂ (λ c flag. handed_on flag (sum_of cs values i) (joined c.op (operand_tree c.left
      (pointer_of cs values i) (recall_of cs values i)) (operand_tree c.right (pointer_of cs values
      i) (recall_of cs values i)))) here (ap (λ c. c.flag) here ∙ adding_flag t.operand t.factor)
      ∙ ap₂ (λ pointer recall. joined (term_condition t).op
      (operand_tree (term_condition t).left pointer recall) (operand_tree
      (term_condition t).right pointer recall)) (pointer_none values i) (recall_none values i)
      ∙ adding_joined t.operand t.factor

  value_is : (i : ℕ) (d : Term) → i < length terms → tree_at (values_of cs) i ≡ term_tree (get_or terms i d)
  value_is i d within = (values_by_rules cs).each i (omega (arith, within, many terms))
      ∙ rule_is (values_of cs) i d within

  sum_is : (d : Term) (k : ℕ) → k ≤ length terms → sum_of cs (values_of cs) k ≡ terms_sum (take k terms)
  sum_is d zero few = refl
  sum_is d (suc i) few =
      let within : i < length terms = omega (arith, few) in
      let flag : flag_at cs i ≡ AddSource = ap (λ c. c.flag) (condition_is terms i d within)
      ∙ adding_flag (get_or terms i d).operand (get_or terms i d).factor in
      ap (λ flag. sum_after flag (tree_at (values_of cs) i) (sum_of cs (values_of cs) i)) flag
      ∙ ap₂ (λ sum value. Some (added sum value)) (sum_is d i (omega (arith, few))) (value_is i d within)
      ∙ sym (sum_more terms i d within)

  -- the whole of a list is its front
  take_all : {X : Type 0} (xs : List X) → take (length xs) xs ≡ xs
  take_all [] = refl
  take_all (x ∷ xs) = ap (λ ys. x ∷ ys) (take_all xs)

  -- what the last condition compares is the legacy sum and 0
  left_last : (d : Term) → terms_sum terms ≡ Some (terms_tree terms) → left_of cs (length terms)
      ≡ join Add (terms_tree terms) (constant 0)
  left_last d some =
      let n = length terms in
      let flag : flag_at cs n ≡ Measured = ap (λ c. c.flag) (last_is terms) in
      let sum : sum_of cs (values_of cs) n ≡ Some (terms_tree terms) =
      sum_is d n (omega arith) ∙ ap terms_sum (take_all terms) ∙ some in
      let operand : left_operand cs (values_of cs) n ≡ constant 0 = ap (λ c. operand_tree c.left
      (pointer_of cs (values_of cs) n) (recall_of cs (values_of cs) n)) (last_is terms) in
      ap (λ b. cond b (tree_at (values_of cs) n)
      (added (sum_of cs (values_of cs) n) (left_operand cs (values_of cs) n))) (ap hands_on flag)
      ∙ ap₂ added sum operand

  -- ---- the group at a frame

  any_none : (p : ℕ → Bool) → ((j : ℕ) → p j ≡ false) → (js : List ℕ) → list_any p js ≡ false
  any_none p none [] = refl
  any_none p none (j ∷ js) = ap (λ b. b || list_any p js) (none j) ∙ any_none p none js

  all_of : (p : ℕ → Bool) → ((j : ℕ) → p j ≡ true) → (js : List ℕ) → list_all p js ≡ true
  all_of p each [] = refl
  all_of p each (j ∷ js) = ap (λ b. b && list_all p js) (each j) ∙ all_of p each js

  -- no measured condition takes its number from its total
  no_total : (ts : List Term) (j : ℕ) → (is_measured (flag_at (legacy_conditions ts) j)
      && from_total InValue (condition_at (legacy_conditions ts) j)) ≡ false
  no_total [] zero = refl
  no_total [] (suc j) = refl
  no_total (t ∷ ts) zero = ap (λ flag. is_measured flag && from_total InValue (term_condition t))
      (adding_flag t.operand t.factor)
  no_total (t ∷ ts) (suc j) = no_total ts j

  module _ (truths : List Bool) (lefts hits : List ℕ) where
    abbrev f : Frame
    f = frame_of cs truths lefts hits

    no_pause : some_valid is_pause f (places cs) ≡ false
    no_pause = any_none (λ j. is_pause (flag_at cs j) && (settled_at f j).valid)
        (λ j. and_left (is_pause (flag_at cs j)) (settled_at f j).valid
        (no_class is_pause refl refl refl terms j)) (places cs)

    no_reset : some_valid is_reset f (places cs) ≡ false
    no_reset = any_none (λ j. is_reset (flag_at cs j) && (settled_at f j).valid)
        (λ j. and_left (is_reset (flag_at cs j)) (settled_at f j).valid
        (no_class is_reset refl refl refl terms j)) (places cs)

    no_measured_if : all_valid is_measured_if f (places cs) ≡ true
    no_measured_if = all_of (λ j. not (is_measured_if (flag_at cs j)) || (settled_at f j).valid)
        (λ j. ap (λ b. not b || (settled_at f j).valid)
        (no_class is_measured_if refl refl refl terms j)) (places cs)

    offer_none : (d : Term) (j : ℕ) → j < length terms → offer InValue f j ≡ None
    offer_none d j within =
        let t = get_or terms j d in
        ap (λ c. cond (is_measured c.flag) (Some (number_of InValue c (settled_at f j).total
        (slice_index lefts j))) None) (condition_is terms j d within)
        ∙ ap (λ flag. cond (is_measured flag) (Some (number_of InValue (term_condition t)
        (settled_at f j).total (slice_index lefts j))) None) (adding_flag t.operand t.factor)

    offer_last : offer InValue f (length terms) ≡ Some (slice_index lefts (length terms))
    offer_last = ap (λ c. cond (is_measured c.flag) (Some (number_of InValue c (settled_at f
        (length terms)).total (slice_index lefts (length terms)))) None) (last_is terms)

    -- of places that offer nothing the greatest is that of the place behind them
    greatest_behind : (m a : ℕ) → ((j : ℕ) → a ≤ j → j < a + m → offer InValue f j ≡ None)
        → greatest InValue f (range_with_len a m ++ (a + m) ∷ []) ≡ offer InValue f (a + m)
    greatest_behind zero a none = larger_none (offer InValue f (a + 0)) ∙ ap (offer InValue f) (omega arith)
      where
        larger_none : (o : Option ℕ) → larger o None ≡ o
        larger_none None = refl
        larger_none (Some n) = refl
    greatest_behind (suc m) a none =
        let more : a + suc m ≡ a + 1 + m = omega arith in
        ap (λ o. larger o (greatest InValue f (range_with_len (a + 1) m ++ (a + suc m) ∷ [])))
        (none a (omega arith) (omega arith))
        ∙ ap (λ n. greatest InValue f (range_with_len (a + 1) m ++ n ∷ [])) more
        ∙ greatest_behind m (a + 1) (λ j from below. none j (omega (arith, from)) (omega (arith, below)))
        ∙ ap (offer InValue f) (sym more)

    greatest_last : (d : Term) → greatest InValue f (places cs) ≡ Some (slice_index lefts (length terms))
    greatest_last d =
        ap (λ n. greatest InValue f (range_with_len 0 n)) (many terms)
        ∙ ap (greatest InValue f) (range_more 0 (length terms))
        ∙ greatest_behind (length terms) 0 (λ j from below. offer_none d j (omega (arith, below)))
        ∙ ap (offer InValue f) (omega arith)
        ∙ offer_last

    -- what the part gives: the last left value; it resets nothing, and takes nothing from hits
    pub legacy_number : (d : Term) (sum old : ℕ) → (part_step (Grouped cs) f sum old).number
        ≡ slice_index lefts (length terms)
    legacy_number d sum old = ap₂ (λ p o. unwrap_or (cond p None o) old) no_pause
        (ap₂ option_if no_measured_if (greatest_last d))

    pub legacy_resets : (sum old : ℕ) → (part_step (Grouped cs) f sum old).reset ≡ false
    legacy_resets sum old = ap₂ (λ p r. not p && r) no_pause no_reset

    pub legacy_from_hits : (sum old : ℕ) → (part_step (Grouped cs) f sum old).from_hits ≡ false
    legacy_from_hits sum old = any_none (λ j. is_measured (flag_at cs j)
        && from_total InValue (condition_at cs j)) (no_total terms) (places cs)

  -- at a frame: the number of the condition part is that of the legacy part
  pub same_number : (start : Start) (history : History) (d : Term) → terms_sum terms
      ≡ Some (terms_tree terms) → HasSmallConstants (terms_tree terms)
      → (hits : List ℕ) (sum old : ℕ) → (part_step (Grouped cs)
      (frame_of cs (map (truth_at start history cs) (places cs)) (map (left_at start history cs)
      (places cs)) hits) sum old).number ≡ value_of start (terms_tree terms) history
  same_number start history d some small hits sum old =
      let n = length terms in
      let value = value_of start (terms_tree terms) history in
      let inside : value < 2 ^ 32 = (value_in start history (terms_tree terms) small).1 in
      let plain : (value + 0) % 2 ^ 32 ≡ value = omega (arith, inside) in
      legacy_number (map (truth_at start history cs) (places cs))
      (map (left_at start history cs) (places cs)) hits d sum old
      ∙ get_or-map-range_with_len (left_at start history cs) 0 (length cs) n n 0
      (omega (arith, many terms)) (omega arith)
      ∙ ap (λ tree. value_of start tree history) (left_last d some)
      ∙ plain
