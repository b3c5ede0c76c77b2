-- The distinct comparisons of a set, and when each holds: docs/INTERNALS.md, "Truths of comparisons".
use Rattle.std.specs.Prelude.{◌≡◌, ◌≢◌, ℕ, ◌<◌, Bool, false, List, length, map, slice_index, slice_index_or}
use Rattle.ra_operand.specs.declared.op.Op.TheVariants.{Bare}
use Rattle.ra_operand.specs.Operators.{compared, is_arithmetic}
use Rattle.ra_indirect.specs.declared.node.Node.{Node}
use Rattle.ra_indirect.specs.Pools.{IsValued, node_at}
use Rattle.ra_truths.specs.declared.comparison.Comparison.{Comparison}

-- the comparison of a number; past the end one that always holds
abbrev pub comparison_at : List Comparison → ℕ → Comparison
comparison_at comparisons n = slice_index_or comparisons n (record { op = Bare; left = 0; right = 0 })

-- none stands twice
abbrev pub AreDistinct : List Comparison → Type 0
AreDistinct comparisons =
    (i k : ℕ) → i < k → k < length comparisons → comparison_at comparisons i ≢ comparison_at comparisons k

-- both numbers are below this one
pub record IsWithin (nodes : ℕ) (c : Comparison) : Type 0 where
  pub left : c.left < nodes
  pub right : c.right < nodes

-- each of them is
abbrev pub AreWithin : ℕ → List Comparison → Type 0
AreWithin nodes comparisons = (k : ℕ) → k < length comparisons → IsWithin nodes (comparison_at comparisons k)

-- the operator compares, or there is none, and both nodes are of the pool and have a value
pub record IsOver (nodes : List Node) (c : Comparison) : Type 0 where
  pub compares : is_arithmetic c.op ≡ false
  pub within : IsWithin (length nodes) c
  pub left : IsValued (node_at nodes c.left)
  pub right : IsValued (node_at nodes c.right)

-- each of them does
abbrev pub AreOver : List Node → List Comparison → Type 0
AreOver nodes comparisons = (k : ℕ) → k < length comparisons → IsOver nodes (comparison_at comparisons k)

-- whether a comparison holds, by the values of the nodes
abbrev pub holds_by : List ℕ → Comparison → Bool
holds_by values c = compared c.op (slice_index values c.left) (slice_index values c.right)

-- the truth of each comparison, by the values of the nodes
abbrev pub truths_by : List ℕ → List Comparison → List Bool
truths_by values comparisons = map (holds_by values) comparisons
