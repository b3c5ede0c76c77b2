-- The trees of a group's conditions, by looking back in the text and, for `{recall}`, in the pass order:
-- docs/DEFINITIONS.md, "Trees of a group".
use Rattle.std.specs.Prelude.{◌≡◌, ℕ, zero, suc, ◌<◌, ◌==◌, Option, None, Some, List, [], ◌∷◌, length, map, replicate}
use Rattle.std.specs.Prelude.{slice_set, slice_index_or, if◌then◌else◌}
use Rattle.std.specs.List.{before_first}
use Rattle.ra_operand.specs.declared.operand.Operand.{Operand}
use Rattle.ra_operand.specs.declared.operand.Operand.TheVariants.{Cell, Const, Recall}
use Rattle.ra_operand.specs.declared.op.Op.{Op}
use Rattle.ra_operand.specs.declared.op.Op.TheVariants.{Bare, Add, Sub, Mul}
use Rattle.ra_condition.specs.declared.flag.Flag.{Flag}
use Rattle.ra_condition.specs.declared.flag.Flag.TheVariants.{AddSource, SubSource, AddAddress, Remember}
use Rattle.ra_condition.specs.declared.condition.Condition.{Condition}
use Rattle.ra_condition.specs.declared.part.Term.{Term}
use Rattle.ra_condition.specs.Flags.{hands_on, is_address, is_remember}
use Rattle.ra_condition.specs.Contents.{condition_at, flag_at}
use Rattle.ra_condition.specs.Chains.{places, pass_order}
use Rattle.ra_indirect.specs.Trees.{Tree, constant, join, view}

-- the tree at a place of a list of trees
abbrev pub tree_at : List Tree → ℕ → Tree
tree_at trees j = slice_index_or trees j (constant 0)

-- the tree of an operand, from the pointer of its condition and the value last remembered
abbrev pub operand_tree : Operand → Tree → Tree → Tree
operand_tree (Const n) pointer recall = constant n
operand_tree Recall pointer recall = recall
operand_tree (Cell kind size address) pointer recall = view kind size pointer address

-- In what follows `values` has, for each condition of the group, the tree of the value that it hands on.

-- the pointer of a condition: the value of the condition directly before it, if that is an AddAddress
abbrev pub pointer_of : List Condition → List Tree → ℕ → Tree
pointer_of cs values zero = constant 0
pointer_of cs values (suc i) = if is_address (flag_at cs i) then tree_at values i else constant 0

-- the value of the last Remember of these places, else the one before them
abbrev pub last_remembered : List Condition → List Tree → Tree → List ℕ → Tree
last_remembered cs values before [] = before
last_remembered cs values before (i ∷ is) =
    last_remembered cs values (if is_remember (flag_at cs i) then tree_at values i else before) is

-- the value of `{recall}` in a condition: that of the latest Remember before it in pass order
abbrev pub recall_of : List Condition → List Tree → ℕ → Tree
recall_of cs values j = last_remembered cs values (constant 0) (before_first (λ i. i == j) (pass_order cs))

-- a value added to a sum, which may have nothing yet
abbrev pub added : Option Tree → Tree → Tree
added None value = value
added (Some sum) value = join Add sum value

-- a value taken from a sum, or from 0
abbrev pub subtracted : Option Tree → Tree → Tree
subtracted None value = join Sub (constant 0) value
subtracted (Some sum) value = join Sub sum value

-- the sum after a condition, from the value that it hands on and the sum before it
abbrev pub sum_after : Flag → Tree → Option Tree → Option Tree
sum_after AddSource value sum = Some (added sum value)
sum_after SubSource value sum = Some (subtracted sum value)
sum_after AddAddress value sum = sum
sum_after _ value sum = None

-- the sum of a condition: of the AddSource and SubSource conditions directly before it
abbrev pub sum_of : List Condition → List Tree → ℕ → Option Tree
sum_of cs values zero = None
sum_of cs values (suc i) = sum_after (flag_at cs i) (tree_at values i) (sum_of cs values i)

-- the tree of the left operand of a condition
abbrev pub left_operand : List Condition → List Tree → ℕ → Tree
left_operand cs values j = operand_tree (condition_at cs j).left (pointer_of cs values j) (recall_of cs values j)

-- the tree of the right operand of a condition
abbrev pub right_operand : List Condition → List Tree → ℕ → Tree
right_operand cs values j = operand_tree (condition_at cs j).right (pointer_of cs values j) (recall_of cs values j)

-- two operands by the arithmetic of their condition, or the left one alone
abbrev pub joined : Op → Tree → Tree → Tree
joined Bare left right = left
joined op left right = join op left right

-- the value that a condition hands on: a Remember takes its sum along, and other flags hand on the constant 0
abbrev pub handed_on : Flag → Option Tree → Tree → Tree
handed_on AddSource sum value = value
handed_on SubSource sum value = value
handed_on AddAddress sum value = value
handed_on Remember sum value = added sum value
handed_on _ sum value = constant 0

-- the value that a condition hands on, by the values of the others; the constant 0 where it hands none on
abbrev pub value_by_rules : List Condition → List Tree → ℕ → Tree
value_by_rules cs values j =
    handed_on (flag_at cs j) (sum_of cs values j)
    (joined (condition_at cs j).op (left_operand cs values j) (right_operand cs values j))

-- the values once these conditions have passed, each found when it passes
abbrev pub values_along : List Condition → List Tree → List ℕ → List Tree
values_along cs values [] = values
values_along cs values (j ∷ js) = values_along cs (slice_set values j (value_by_rules cs values j)) js

-- the value that each condition of a group hands on, in text order
abbrev pub values_of : List Condition → List Tree
values_of cs = values_along cs (replicate (length cs) (constant 0)) (pass_order cs)

-- each value is what the rules make of the others, as in one list of values alone
pub record AreValues (cs : List Condition) (values : List Tree) : Type 0 where
  pub as_many : length values ≡ length cs
  pub each : (j : ℕ) → j < length cs → tree_at values j ≡ value_by_rules cs values j

-- the left tree of a condition; one that hands a value on has the value on both sides
abbrev pub left_of : List Condition → ℕ → Tree
left_of cs j =
    let values = values_of cs in
    if hands_on (flag_at cs j) then tree_at values j else added (sum_of cs values j) (left_operand cs values j)

-- the right tree of a condition; one that hands a value on has the value on both sides
abbrev pub right_of : List Condition → ℕ → Tree
right_of cs j =
    let values = values_of cs in
    if hands_on (flag_at cs j) then tree_at values j else right_operand cs values j

-- the left trees of a group, in text order
abbrev pub lefts_of : List Condition → List Tree
lefts_of cs = map (left_of cs) (places cs)

-- the right trees of a group, in text order
abbrev pub rights_of : List Condition → List Tree
rights_of cs = map (right_of cs) (places cs)

-- a tree times the factor of a legacy term, if it has one
abbrev pub times : Tree → Option Operand → Tree
times tree None = tree
times tree (Some factor) = join Mul tree (operand_tree factor (constant 0) (constant 0))

-- the tree of a legacy term, which has no pointer and recalls 0
abbrev pub term_tree : Term → Tree
term_tree t = times (operand_tree t.operand (constant 0) (constant 0)) t.factor

-- the sum of a tree and the terms after it
abbrev pub summed_from : Tree → List Term → Tree
summed_from sum [] = sum
summed_from sum (t ∷ ts) = summed_from (join Add sum (term_tree t)) ts

-- the legacy sum of a part
abbrev pub terms_tree : List Term → Tree
terms_tree [] = constant 0
terms_tree (t ∷ ts) = summed_from (term_tree t) ts
