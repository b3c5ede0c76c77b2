-- What a pool is, and what it does with a node: docs/DEFINITIONS.md, "Trees, cells and tracked masks".
use Rattle.std.specs.Prelude.{◌≡◌, ◌≢◌, ◌⊎◌, ℕ, ◌+◌, ◌<◌, List, [], ◌∷◌, ◌++◌}
use Rattle.std.specs.Prelude.{length, take, slice_get, slice_index, Some, Contains}
use Rattle.ra_indirect.specs.declared.node.Node.{Node}
use Rattle.ra_indirect.specs.declared.node.Node.TheVariants.{Const}
use Rattle.ra_indirect.specs.Pools.{MayFollow, node_at, spelled_at, spelled_by}

-- each node names earlier ones, and none stands twice
pub record IsPool (nodes : List Node) : Type 0 where
  pub named : (k : ℕ) → k < length nodes → MayFollow (take k nodes) (node_at nodes k)
  pub once : (i k : ℕ) → i < k → k < length nodes → node_at nodes i ≢ node_at nodes k

-- the item stands at the place, and nothing is new
pub record IsFound {A : Type 0} (old new : List A) (item : A) (place : ℕ) : Type 0 where
  pub stands : slice_get old place ≡ Some item
  pub same : new ≡ old

-- the item is new, and goes last
pub record IsAdded {A : Type 0} (old new : List A) (item : A) (place : ℕ) : Type 0 where
  pub absent : ¬ Contains old item
  pub last : place ≡ length old
  pub grown : new ≡ old ++ item ∷ []

-- the item stands at the place, where it stood, or last where it is new
abbrev pub Interns : {A : Type 0} → List A → List A → A → ℕ → Type 0
Interns old new item place = IsFound old new item place ⊎ IsAdded old new item place

-- no other node of the pool spells what this one spells
abbrev pub IsAlone : List Node → ℕ → Type 0
IsAlone nodes n =
    (k : ℕ) → k < length nodes → spelled_at (spelled_by nodes) k ≡ spelled_at (spelled_by nodes) n → k ≡ n

-- a constant stands at the number before its place, where it has one that is not 0
abbrev pub HaveConstants : List Node → List ℕ → Type 0
HaveConstants nodes places =
    (n k : ℕ) → slice_index places n ≡ k + 1 → slice_get nodes k ≡ Some (Const n)
