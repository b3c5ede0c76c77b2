-- What the calls of an elaboration leave in a pool: the step between the code and docs/DEFINITIONS.md, "Trees of a
-- group".
use Rattle.std.specs.Prelude.{◌≡◌, ℕ, ◌+◌, ◌<◌, ◌≤◌, ◌^◌, Option, None, Some, List, [], length}
use Rattle.ra_condition.specs.declared.flag.Flag.{Flag}
use Rattle.ra_condition.specs.declared.flag.Flag.TheVariants.{AddSource, SubSource, AddAddress}
use Rattle.ra_indirect.specs.declared.node.Node.{Node}
use Rattle.ra_indirect.specs.declared.node.Node.TheVariants.{Cell as CellNode, View}
use Rattle.ra_indirect.specs.Trees.{Tree, constant}
use Rattle.ra_indirect.specs.Pools.{Spells, IsValued, node_at}
use Rattle.ra_indirect.specs.Interned.{IsPool}
use Rattle.ra_indirect.specs.Growing.{IsFront, GrowsBy, AddsAtMost}

-- the nodes are those of a pool, and this many more find room
pub record HasRoom (nodes : List Node) (more : ℕ) : Type 0 where
  pub pool : IsPool nodes
  pub room : length nodes + more ≤ 2 ^ 31

-- the number is that of a node with a value
abbrev pub Names : List Node → ℕ → Type 0
Names nodes n = (n < length nodes) × IsValued (node_at nodes n)

-- a number that is there is that of a node with a value
abbrev pub NamesSome : List Node → Option ℕ → Type 0
NamesSome nodes None = Unit {0}
NamesSome nodes (Some n) = Names nodes n

-- a node spells the tree, or there is none and the tree is the constant 0
abbrev pub SpellsOrZero : List Node → Option ℕ → Tree → Type 0
SpellsOrZero nodes None tree = tree ≡ constant 0
SpellsOrZero nodes (Some n) tree = Spells nodes n tree

-- a node spells the sum, or there is none of both
abbrev pub SpellsSum : List Node → Option ℕ → Option Tree → Type 0
SpellsSum nodes None None = Unit {0}
SpellsSum nodes (Some n) (Some tree) = Spells nodes n tree
SpellsSum nodes _ _ = ⊥

-- the pool grows by the trees, and then the node spells this one
pub record Plants (old new : List Node) (trees : List Tree) (tree : Tree) (number : ℕ) : Type 0 where
  pub grows : GrowsBy old new trees
  pub spells : Spells new number tree

-- the pool grows by no cell and no mask, and then the node spells the sum
pub record PlantsSum (old new : List Node) (sum : Option Tree) (number : Option ℕ) : Type 0 where
  pub grows : GrowsBy old new []
  pub spells : SpellsSum new number sum

-- the old nodes stay, and this many are new at most
pub record IsKept (old new : List Node) (nodes cells views : ℕ) : Type 0 where
  pub front : IsFront old new
  pub pool : IsPool new
  pub adds : AddsAtMost old new nodes cells views

-- how many cells a node is: one or none
abbrev pub cells_at : Node → ℕ
cells_at (CellNode width pointer offset) = 1
cells_at _ = 0

-- how many views a node is: one or none
abbrev pub views_at : Node → ℕ
views_at (View kind size c) = 1
views_at _ = 0

-- a condition of this flag goes into the sum, or passes it on
abbrev pub IsCarried : Flag → Type 0
IsCarried AddSource = Unit {0}
IsCarried SubSource = Unit {0}
IsCarried AddAddress = Unit {0}
IsCarried _ = ⊥
