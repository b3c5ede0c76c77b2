-- What an elaboration answers, and what it leaves in the pool: docs/DEFINITIONS.md, "Trees of a group".
use Rattle.std.specs.Prelude.{◌≡◌, ℕ, ◌<◌, List, [], ◌∷◌, length, slice_index}
use Rattle.std.specs.List.{flat_map}
use Rattle.ra_condition.specs.declared.condition.Condition.{Condition}
use Rattle.ra_condition.specs.Contents.{condition_at}
use Rattle.ra_indirect.specs.declared.node.Node.{Node}
use Rattle.ra_indirect.specs.Trees.{Tree}
use Rattle.ra_indirect.specs.Pools.{Spells}
use Rattle.ra_chain.specs.Elaboration.{left_of, right_of}
use Rattle.ra_chain.specs.Sides.{JoinsValues}

-- a number for each condition, of a node that spells its tree
pub record SpellsEach (nodes : List Node) (numbers : List ℕ) (count : ℕ) (tree : ℕ → Tree) : Type 0 where
  pub as_many : length numbers ≡ count
  pub each : (j : ℕ) → j < count → Spells nodes (slice_index numbers j) (tree j)

-- the trees of conditions in this order, left before right
abbrev pub trees_along : List Condition → List ℕ → List Tree
trees_along cs js = flat_map (λ j. left_of cs j ∷ right_of cs j ∷ []) js

-- each condition that hands a value on has arithmetic or no operator, as in every group that a text spells
abbrev pub AllJoin : List Condition → Type 0
AllJoin cs = (j : ℕ) → j < length cs → JoinsValues (condition_at cs j)
