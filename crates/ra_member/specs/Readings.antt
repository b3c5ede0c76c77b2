-- What conditions read at a frame, by the numbers of a table's nodes: docs/DEFINITIONS.md, "Values at a frame".
use Rattle.std.specs.Prelude.{ℕ, ◌<◌, Bool, Option, None, Some, List, [], ◌∷◌, length, map, slice_index, slice_index_or}
use Rattle.std.specs.List.{flat_map}
use Rattle.ra_operand.specs.declared.op.Op.{Op}
use Rattle.ra_operand.specs.Operators.{compared}
use Rattle.ra_condition.specs.declared.condition.Condition.{Condition}
use Rattle.ra_indirect.specs.declared.node.Node.{Node}
use Rattle.ra_indirect.specs.Pools.{IsValued, node_at}

-- the operator of each condition of a group
abbrev pub ops_in : List Condition → List Op
ops_in cs = map (λ c. c.op) cs

-- the operators of the conditions of some groups, group after group
abbrev pub ops_of : List (List Condition) → List Op
ops_of groups = flat_map ops_in groups

-- the numbers of these nodes
abbrev pub numbers_at : List ℕ → List ℕ → List ℕ
numbers_at values nodes = map (λ n. slice_index values n) nodes

-- whether each comparison holds between the left and the right number beside it
abbrev pub truths_by : List Op → (lefts rights : List ℕ) → List Bool
truths_by (op ∷ ops) (x ∷ lefts) (y ∷ rights) = compared op x y ∷ truths_by ops lefts rights
truths_by _ _ _ = []

-- each of these nodes has a value
abbrev pub AreValued : List Node → List ℕ → Type 0
AreValued nodes ns =
    (k : ℕ) → k < length ns → (slice_index ns k < length nodes) × IsValued (node_at nodes (slice_index ns k))

-- the number of a node that may be missing
abbrev pub sum_by_node : List ℕ → Option ℕ → ℕ
sum_by_node values None = 0
sum_by_node values (Some n) = slice_index values n

-- a node that may be missing has a value where it is there
abbrev pub IsValuedSum : List Node → Option ℕ → Type 0
IsValuedSum nodes None = Unit {0}
IsValuedSum nodes (Some n) = (n < length nodes) × IsValued (node_at nodes n)

-- each of these sums is the number of a node with a value, or there is none
abbrev pub AreValuedSums : List Node → List (Option ℕ) → Type 0
AreValuedSums nodes ns = (k : ℕ) → k < length ns → IsValuedSum nodes (slice_index_or ns k None)
