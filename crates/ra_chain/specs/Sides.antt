-- The trees of a condition, from its sum, its left operand and its right one: docs/DEFINITIONS.md, "Trees of a group".
use Rattle.std.specs.Prelude.{◌≡◌, ℕ, suc, if◌then◌else◌, Option, None, Some, List, [], ◌∷◌, ◌++◌, length}
use Rattle.std.specs.Prelude.{slice_index, IsTrue, ◌⊎◌}
use Rattle.ra_operand.specs.Operators.{is_arithmetic, is_bare}
use Rattle.ra_condition.specs.declared.condition.Condition.{Condition}
use Rattle.ra_condition.specs.Flags.{hands_on, is_remember}
use Rattle.ra_condition.specs.Contents.{flag_at}
use Rattle.ra_indirect.specs.declared.node.Node.{Node}
use Rattle.ra_indirect.specs.Trees.{Tree}
use Rattle.ra_indirect.specs.Pools.{Spells}
use Rattle.ra_indirect.specs.Growing.{GrowsBy}
use Rattle.ra_chain.specs.declared.sides.Named.{Named}
use Rattle.ra_chain.specs.declared.trees.Passed.{Passed}
use Rattle.ra_chain.specs.Elaboration.{tree_at, added, joined, handed_on, recall_of, sum_of, values_of, left_of}
use Rattle.ra_chain.specs.Elaboration.{right_of}
use Rattle.ra_chain.specs.Planting.{NamesSome, SpellsOrZero, SpellsSum, IsCarried}

-- what a condition may name are nodes with values
pub record AreNamed (nodes : List Node) (named : Named) : Type 0 where
  pub pointer : NamesSome nodes named.pointer
  pub recalled : NamesSome nodes named.recalled

-- a condition that hands a value on has arithmetic or no operator
abbrev pub JoinsValues : Condition → Type 0
JoinsValues c = IsTrue (hands_on c.flag) → IsTrue (is_bare c.op) ⊎ IsTrue (is_arithmetic c.op)

-- the left tree of a condition, by its sum and its operands; the value itself where it hands one on
abbrev pub left_side : Condition → Option Tree → (left right : Tree) → Tree
left_side c sum left right =
    if hands_on c.flag then handed_on c.flag sum (joined c.op left right) else added sum left

-- the right tree of a condition, by its operands; the value itself where it hands one on
abbrev pub right_side : Condition → Option Tree → (left right : Tree) → Tree
right_side c sum left right = if hands_on c.flag then handed_on c.flag sum (joined c.op left right) else right

-- the tree of a sum, if there is one
abbrev pub sum_trees : Option Tree → List Tree
sum_trees None = []
sum_trees (Some sum) = sum ∷ []

-- the pool grew by the left operand, and the sum before it names no new cell
pub record GrewByLeft (base old : List Node) (sum : Option Tree) (left : Tree) : Type 0 where
  pub alone : GrowsBy base old (left ∷ [])
  pub with_sum : GrowsBy base old (sum_trees sum ++ left ∷ [])

-- the pool grew by the trees of a condition, and two nodes spell them
pub record PlantsSides (base new : List Node) (left right : Tree) (first second : ℕ) : Type 0 where
  pub grows : GrowsBy base new (left ∷ right ∷ [])
  pub left_too : Spells new first left
  pub right_too : Spells new second right

-- what passed has an entry for each condition
pub record IsSized (passed : Passed) (count : ℕ) : Type 0 where
  pub lefts_too : length passed.lefts.items ≡ count
  pub rights_too : length passed.rights.items ≡ count

-- what is known of the condition before a place, and of the value last remembered
pub record IsKnownBefore (cs : List Condition) (j : ℕ) (passed : Passed) (nodes : List Node) : Type 0 where
  pub value : (i : ℕ) → suc i ≡ j → IsCarried (flag_at cs i)
      → Spells nodes (slice_index passed.lefts.items i) (tree_at (values_of cs) i)
  pub sum : (i : ℕ) → suc i ≡ j → IsCarried (flag_at cs i) → SpellsSum nodes passed.sum (sum_of cs (values_of cs) i)
  pub recalled : SpellsOrZero nodes passed.recalled (recall_of cs (values_of cs) j)

-- a condition has its nodes, and what else is kept stays
pub record TakesCondition (cs : List Condition) (j : ℕ) (old new : Passed) (before after : List Node) : Type 0 where
  pub sides : PlantsSides before after (left_of cs j) (right_of cs j)
      (slice_index new.lefts.items j) (slice_index new.rights.items j)
  pub sum : SpellsSum after new.sum (sum_of cs (values_of cs) j)
  pub others : (i : ℕ) → (i ≡ j → ⊥) → (slice_index new.lefts.items i ≡ slice_index old.lefts.items i)
      × (slice_index new.rights.items i ≡ slice_index old.rights.items i)
  pub recalled : new.recalled
      ≡ (if is_remember (flag_at cs j) then Some (slice_index new.lefts.items j) else old.recalled)
