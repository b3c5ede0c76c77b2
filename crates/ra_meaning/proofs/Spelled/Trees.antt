-- Trees of conditions and terms whose operands are of 32 bits have constants of 32 bits.
use Rattle.std.proofs.Common.{ℕ, zero, suc, ◌==◌, Bool, true, false, if◌then◌else◌, Option, None, Some, List, [], ◌∷◌}
use Rattle.std.proofs.Common.{length, replicate, slice_set, lit<}
use Rattle.std.specs.List.{AllByRecursion, before_first}
use Rattle.ra_operand.specs.declared.operand.Operand.{Operand}
use Rattle.ra_operand.specs.declared.operand.Operand.TheVariants.{Cell, Const, Recall}
use Rattle.ra_operand.specs.declared.op.Op.{Op}
use Rattle.ra_operand.specs.declared.op.Op.TheVariants.{Bare, Add}
use Rattle.ra_operand.specs.Fitting.{Fits32}
use Rattle.ra_condition.specs.declared.flag.Flag.{Flag}
use Rattle.ra_condition.specs.declared.flag.Flag.TheVariants.{AddSource, SubSource, AddAddress, Remember}
use Rattle.ra_condition.specs.declared.condition.Condition.{Condition}
use Rattle.ra_condition.specs.declared.part.Term.{Term}
use Rattle.ra_condition.specs.Flags.{hands_on, is_remember}
use Rattle.ra_condition.specs.Contents.{no_condition, condition_at, flag_at}
use Rattle.ra_condition.specs.Chains.{pass_order}
use Rattle.ra_condition.specs.Spelled.{FitsFactor, IsTerm}
use Rattle.ra_indirect.specs.Trees.{Tree, constant, join}
use Rattle.ra_chain.specs.Elaboration.{tree_at, operand_tree, pointer_of, last_remembered, recall_of, added, subtracted}
use Rattle.ra_chain.specs.Elaboration.{sum_after, sum_of, left_operand, right_operand, joined, handed_on}
use Rattle.ra_chain.specs.Elaboration.{value_by_rules, values_along, values_of, left_of, times, term_tree, summed_from}
use Rattle.ra_chain.specs.Elaboration.{terms_tree}
use Rattle.ra_meaning.proofs.Each.{each_at, each_set, each_replicate}
use Rattle.ra_meaning.proofs.Words.Trees.{HasWords}

-- both operands of a condition are of 32 bits
abbrev pub HasOperands : Condition → Type 0
HasOperands c = Fits32 c.left × Fits32 c.right

-- so are those of each condition of a group
abbrev pub FitsGroup : List Condition → Type 0
FitsGroup cs = AllByRecursion HasOperands cs

-- a sum that may have nothing yet
abbrev pub HasSum : Option Tree → Type 0
HasSum None = Unit {0}
HasSum (Some tree) = HasWords tree

operand_words : (o : Operand) (pointer recall : Tree) → Fits32 o → HasWords recall
    → HasWords (operand_tree o pointer recall)
operand_words (Const n) pointer recall fits words = fits
operand_words Recall pointer recall fits words = words
operand_words (Cell kind size address) pointer recall fits words = tt

if_words : (b : Bool) (x y : Tree) → HasWords x → HasWords y → HasWords (if b then x else y)
if_words true x y first second = first
if_words false x y first second = second

added_words : (sum : Option Tree) (value : Tree) → HasSum sum → HasWords value → HasWords (added sum value)
added_words None value has words = words
added_words (Some sum) value has words = (has, words)

subtracted_words : (sum : Option Tree) (value : Tree) → HasSum sum → HasWords value → HasWords (subtracted sum value)
subtracted_words None value has words = (lit< tt, words)
subtracted_words (Some sum) value has words = (has, words)

sum_after_words : (flag : Flag) (value : Tree) (sum : Option Tree) → HasWords value → HasSum sum
    → HasSum (sum_after flag value sum)
sum_after_words AddSource value sum words has = added_words sum value has words
sum_after_words SubSource value sum words has = subtracted_words sum value has words
sum_after_words AddAddress value sum words has = has
sum_after_words _ value sum words has = tt

joined_words : (op : Op) (left right : Tree) → HasWords left → HasWords right → HasWords (joined op left right)
joined_words Bare left right first second = first
joined_words _ left right first second = (first, second)

handed_words : (flag : Flag) (sum : Option Tree) (value : Tree) → HasSum sum → HasWords value
    → HasWords (handed_on flag sum value)
handed_words AddSource sum value has words = words
handed_words SubSource sum value has words = words
handed_words AddAddress sum value has words = words
handed_words Remember sum value has words = added_words sum value has words
handed_words _ sum value has words = lit< tt

module _ (cs : List Condition) (fits : FitsGroup cs) where
  operands_at : (j : ℕ) → HasOperands (condition_at cs j)
  operands_at j = each_at HasOperands cs j no_condition (lit< tt, lit< tt) fits

  tree_words : (values : List Tree) → AllByRecursion HasWords values → (j : ℕ) → HasWords (tree_at values j)
  tree_words values words j = each_at HasWords values j (constant 0) (lit< tt) words

  remembered_words : (values : List Tree) → AllByRecursion HasWords values → (last : Tree)
      → HasWords last → (is : List ℕ) → HasWords (last_remembered cs values last is)
  remembered_words values words last has [] = has
  remembered_words values words last has (i ∷ is) =
      let next = if is_remember (flag_at cs i) then tree_at values i else last in
      remembered_words values words next (if_words (is_remember (flag_at cs i))
      (tree_at values i) last (tree_words values words i) has) is

  recall_words : (values : List Tree) → AllByRecursion HasWords values → (j : ℕ) → HasWords (recall_of cs values j)
  recall_words values words j =
      remembered_words values words (constant 0) (lit< tt) (before_first (λ i. i == j) (pass_order cs))

  left_operand_words : (values : List Tree) → AllByRecursion HasWords values → (j : ℕ)
      → HasWords (left_operand cs values j)
  left_operand_words values words j =
      operand_words (condition_at cs j).left (pointer_of cs values j) (recall_of cs values j)
      (operands_at j).0 (recall_words values words j)

  right_operand_words : (values : List Tree) → AllByRecursion HasWords values → (j : ℕ)
      → HasWords (right_operand cs values j)
  right_operand_words values words j =
      operand_words (condition_at cs j).right (pointer_of cs values j) (recall_of cs values j)
      (operands_at j).1 (recall_words values words j)

  sum_words : (values : List Tree) → AllByRecursion HasWords values → (j : ℕ) → HasSum (sum_of cs values j)
  sum_words values words zero = tt
  sum_words values words (suc i) =
      sum_after_words (flag_at cs i) (tree_at values i) (sum_of cs values i)
      (tree_words values words i) (sum_words values words i)

  value_words : (values : List Tree) → AllByRecursion HasWords values → (j : ℕ) → HasWords (value_by_rules cs values j)
  value_words values words j =
      let left = left_operand cs values j in
      let right = right_operand cs values j in
      let op = (condition_at cs j).op in
      handed_words (flag_at cs j) (sum_of cs values j) (joined op left right)
      (sum_words values words j) (joined_words op left right (left_operand_words values words j)
      (right_operand_words values words j))

  along_words : (values : List Tree) → AllByRecursion HasWords values → (js : List ℕ)
      → AllByRecursion HasWords (values_along cs values js)
  along_words values words [] = words
  along_words values words (j ∷ js) =
      let value = value_by_rules cs values j in
      along_words (slice_set values j value) (each_set HasWords values j value (value_words values words j) words) js

  all_words : AllByRecursion HasWords (values_of cs)
  all_words =
      along_words (replicate (length cs) (constant 0))
      (each_replicate HasWords (length cs) (constant 0) (lit< tt)) (pass_order cs)

  pub left_words : (j : ℕ) → HasWords (left_of cs j)
  left_words j =
      let values = values_of cs in
      if_words (hands_on (flag_at cs j)) (tree_at values j)
      (added (sum_of cs values j) (left_operand cs values j)) (tree_words values all_words j)
      (added_words (sum_of cs values j) (left_operand cs values j) (sum_words values all_words j)
      (left_operand_words values all_words j))

times_words : (tree : Tree) (factor : Option Operand) → HasWords tree → FitsFactor factor → HasWords (times tree factor)
times_words tree None words fits = words
times_words tree (Some factor) words fits =
    (words, operand_words factor (constant 0) (constant 0) fits (lit< tt))

term_words : (t : Term) → IsTerm t → HasWords (term_tree t)
term_words t is =
    times_words (operand_tree t.operand (constant 0) (constant 0)) t.factor
    (operand_words t.operand (constant 0) (constant 0) is.operand (lit< tt)) is.factor

summed_words : (sum : Tree) → HasWords sum → (ts : List Term) → AllByRecursion IsTerm ts → HasWords (summed_from sum ts)
summed_words sum words [] are = words
summed_words sum words (t ∷ ts) are =
    summed_words (join Add sum (term_tree t)) (words, term_words t are.0) ts are.1

pub terms_words : (ts : List Term) → AllByRecursion IsTerm ts → HasWords (terms_tree ts)
terms_words [] are = lit< tt
terms_words (t ∷ ts) are = summed_words (term_tree t) (term_words t are.0) ts are.1
