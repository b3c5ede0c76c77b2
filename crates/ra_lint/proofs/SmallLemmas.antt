-- The constants of the trees of a group that some text spells are numbers of 32 bits.
use Rattle.std.proofs.Common.{◌≡◌, ◌≢◌, ◌⊎◌, ℕ, zero, suc, ◌<◌, ◌==◌, Bool, true, false, cond, Option, None, Some, List}
use Rattle.std.proofs.Common.{[], ◌∷◌, length, replicate, set, All, subst, inl, inr, arith, length-set}
use Rattle.std.specs.List.{before_first}
use Rattle.std.proofs.lemmas.Bool.{cases_lt, cases_eq}
use Rattle.std.proofs.lemmas.List.{get_or-set_same, get_or-set_other, get_or_past}
use Rattle.ra_operand.specs.declared.operand.Operand.{Operand}
use Rattle.ra_operand.specs.declared.operand.Operand.TheVariants.{Cell, Const, Recall}
use Rattle.ra_operand.specs.declared.op.Op.{Op}
use Rattle.ra_operand.specs.declared.op.Op.TheVariants.{Bare}
use Rattle.ra_operand.specs.Fitting.{Fits32}
use Rattle.ra_condition.specs.declared.flag.Flag.{Flag}
use Rattle.ra_condition.specs.declared.flag.Flag.TheVariants.{AddSource, SubSource, AddAddress, Remember}
use Rattle.ra_condition.specs.declared.condition.Condition.{Condition}
use Rattle.ra_condition.specs.declared.setting.Setting.{Setting}
use Rattle.ra_condition.specs.Flags.{hands_on, is_remember}
use Rattle.ra_condition.specs.Contents.{condition_at, flag_at, no_condition}
use Rattle.ra_condition.specs.Chains.{pass_order}
use Rattle.ra_condition.specs.Spelled.{IsCondition}
use Rattle.ra_indirect.specs.Trees.{Tree, constant}
use Rattle.ra_chain.specs.Elaboration.{tree_at, operand_tree, pointer_of, last_remembered, recall_of, added, subtracted}
use Rattle.ra_chain.specs.Elaboration.{sum_after, sum_of, left_operand, right_operand, joined, handed_on}
use Rattle.ra_chain.specs.Elaboration.{value_by_rules, values_along, values_of, left_of, right_of}
use Rattle.ra_lint.specs.Sound.{HasSmallConstants}

-- a sum, if there is one, has small constants
abbrev SmallSum : Option Tree → Type 0
SmallSum None = Unit {0}
SmallSum (Some tree) = HasSmallConstants tree

operand_small : (o : Operand) (pointer recall : Tree) → Fits32 o → HasSmallConstants recall
    → HasSmallConstants (operand_tree o pointer recall)
operand_small (Const n) pointer recall fits r = fits
operand_small Recall pointer recall fits r = r
operand_small (Cell kind size address) pointer recall fits r = tt

added_small : (sum : Option Tree) (value : Tree) → SmallSum sum → HasSmallConstants value
    → HasSmallConstants (added sum value)
added_small None value s v = v
added_small (Some sum) value s v = (s, v)

subtracted_small : (sum : Option Tree) (value : Tree) → SmallSum sum → HasSmallConstants value
    → HasSmallConstants (subtracted sum value)
subtracted_small None value s v = (omega arith, v)
subtracted_small (Some sum) value s v = (s, v)

after_small : (flag : Flag) (value : Tree) (sum : Option Tree) → HasSmallConstants value → SmallSum sum
    → SmallSum (sum_after flag value sum)
after_small AddSource value sum v s = added_small sum value s v
after_small SubSource value sum v s = subtracted_small sum value s v
after_small AddAddress value sum v s = s
after_small _ value sum v s = tt

joined_small : (op : Op) (left right : Tree) → HasSmallConstants left → HasSmallConstants right
    → HasSmallConstants (joined op left right)
joined_small Bare left right l r = l
joined_small _ left right l r = (l, r)

handed_small : (flag : Flag) (sum : Option Tree) (value : Tree) → SmallSum sum → HasSmallConstants value
    → HasSmallConstants (handed_on flag sum value)
handed_small AddSource sum value s v = v
handed_small SubSource sum value s v = v
handed_small AddAddress sum value s v = v
handed_small Remember sum value s v = added_small sum value s v
handed_small _ sum value s v = omega arith

-- both operands of each condition fit
abbrev AllFit : List Condition → Type 0
AllFit cs = (j : ℕ) → Fits32 (condition_at cs j).left × Fits32 (condition_at cs j).right

pub all_fit : (setting : Setting) (cs : List Condition) → All (IsCondition setting) cs → AllFit cs
all_fit setting cs all j = elim (cases_lt j (length cs)) [
  | inl within ↦ ((all j no_condition within).left, (all j no_condition within).right)
  | inr past ↦ rw (get_or_past cs j no_condition past) (omega arith, omega arith)
]

module _ (cs : List Condition) (fits : AllFit cs) where
  module _ (values : List Tree) (small : (j : ℕ) → HasSmallConstants (tree_at values j)) where
    last_small : (before : Tree) (is : List ℕ) → HasSmallConstants before
        → HasSmallConstants (last_remembered cs values before is)
    last_small before [] b = b
    last_small before (i ∷ is) b = last_small (cond (is_remember (flag_at cs i)) (tree_at values i) before) is
        (by_flag (is_remember (flag_at cs i)))
      where
        by_flag : (r : Bool) → HasSmallConstants (cond r (tree_at values i) before)
        by_flag true = small i
        by_flag false = b

    recall_small : (j : ℕ) → HasSmallConstants (recall_of cs values j)
    recall_small j = last_small (constant 0) (before_first (λ i. i == j) (pass_order cs)) (omega arith)

    sum_small : (j : ℕ) → SmallSum (sum_of cs values j)
    sum_small zero = tt
    sum_small (suc i) = after_small (flag_at cs i) (tree_at values i) (sum_of cs values i) (small i) (sum_small i)

    left_small : (j : ℕ) → HasSmallConstants (left_operand cs values j)
    left_small j = operand_small (condition_at cs j).left (pointer_of cs values j) (recall_of cs values j) (fits j).0
        (recall_small j)

    right_small : (j : ℕ) → HasSmallConstants (right_operand cs values j)
    right_small j = operand_small (condition_at cs j).right (pointer_of cs values j) (recall_of cs values j)
        (fits j).1 (recall_small j)

    value_small : (j : ℕ) → HasSmallConstants (value_by_rules cs values j)
    value_small j = handed_small (flag_at cs j) (sum_of cs values j)
        (joined (condition_at cs j).op (left_operand cs values j) (right_operand cs values j)) (sum_small j)
        (joined_small (condition_at cs j).op (left_operand cs values j) (right_operand cs values j) (left_small j)
        (right_small j))

    set_small : (i : ℕ) (tree : Tree) → HasSmallConstants tree → (j : ℕ)
        → HasSmallConstants (tree_at (set values i tree) j)
    set_small i tree t j = elim (cases_lt j (length values)) [
      | inl within ↦ by_place within (cases_eq j i)
      | inr past ↦ rw (get_or_past (set values i tree) j (constant 0)
          (omega (arith, past, length-set values i tree))) (omega arith)
    ]
      where
        by_place : j < length values → (j ≡ i) ⊎ (j ≢ i) → HasSmallConstants (tree_at (set values i tree) j)
        by_place within (inl here) = subst (λ k. HasSmallConstants (tree_at (set values k tree) j)) here
            (rw (get_or-set_same values j tree (constant 0) within) t)
        by_place within (inr other) = rw (get_or-set_other values i j tree (constant 0) other) (small j)

  along_small : (js : List ℕ) (values : List Tree) → ((j : ℕ) → HasSmallConstants (tree_at values j)) → (j : ℕ)
      → HasSmallConstants (tree_at (values_along cs values js) j)
  along_small [] values small = small
  along_small (i ∷ js) values small = along_small js (set values i (value_by_rules cs values i))
      (set_small values small i (value_by_rules cs values i) (value_small values small i))

  zero_small : (n j : ℕ) → HasSmallConstants (tree_at (replicate n (constant 0)) j)
  zero_small zero j = omega arith
  zero_small (suc n) zero = omega arith
  zero_small (suc n) (suc j) = zero_small n j

  values_small : (j : ℕ) → HasSmallConstants (tree_at (values_of cs) j)
  values_small = along_small (pass_order cs) (replicate (length cs) (constant 0)) (zero_small (length cs))

  pub sides_small : (j : ℕ) → HasSmallConstants (left_of cs j) × HasSmallConstants (right_of cs j)
  sides_small j = by_flag (hands_on (flag_at cs j))
    where
      by_flag : (h : Bool) → HasSmallConstants
          (cond h (tree_at (values_of cs) j) (added (sum_of cs (values_of cs) j) (left_operand cs (values_of cs) j)))
          × HasSmallConstants (cond h (tree_at (values_of cs) j) (right_operand cs (values_of cs) j))
      by_flag true = (values_small j, values_small j)
      by_flag false = (
        added_small (sum_of cs (values_of cs) j) (left_operand cs (values_of cs) j)
            (sum_small (values_of cs) values_small j) (left_small (values_of cs) values_small j),
        right_small (values_of cs) values_small j,
      )
