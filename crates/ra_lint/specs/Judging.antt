-- The ranges of the nodes of a pool, and the verdict on each comparison of a group: the step between the code and
-- docs/DEFINITIONS.md, "Comparisons that never or always hold".
use Rattle.std.specs.Prelude.{ℕ, ◌<◌, ◌==◌, Bool, IsTrue, List, length, map, slice_index}
use Rattle.ra_operand.specs.declared.op.Op.{Op}
use Rattle.ra_operand.specs.Operators.{is_arithmetic}
use Rattle.ra_condition.specs.declared.condition.Condition.{Condition}
use Rattle.ra_condition.specs.Contents.{condition_at}
use Rattle.ra_indirect.specs.declared.node.Node.{Node}
use Rattle.ra_indirect.specs.declared.node.Node.TheVariants.{Const, Cell, View, Arith}
use Rattle.ra_indirect.specs.Pools.{spelled_by, tree_in}
use Rattle.ra_lint.specs.declared.range.Range.{Range}
use Rattle.ra_lint.specs.declared.verdict.Verdict.{Verdict}
use Rattle.ra_lint.specs.Ranges.{range, range_of, view_range, operator_range}
use Rattle.ra_lint.specs.Ordered.{range_at}
use Rattle.ra_lint.specs.Verdicts.{never_by, always_by}
use Rattle.ra_lint.specs.Warnings.{never_at, always_at}

-- the range of the tree that each node spells; a cell counts as the constant 0, and no comparison looks there
abbrev pub ranges_in : List Node → List Range
ranges_in nodes = map (λ s. range_of (tree_in s)) (spelled_by nodes)

-- the range of a node's tree, from those of the nodes before it
abbrev pub node_range : List Range → Node → Range
node_range ranges (Const n) = range n n
node_range ranges (Cell width pointer offset) = range 0 0
node_range ranges (View kind size c) = view_range kind size
node_range ranges (Arith op left right) = operator_range op (range_at ranges left) (range_at ranges right)

-- the node joins trees of nodes below this number, if it joins some
abbrev pub JoinsBelow : ℕ → Node → Type 0
JoinsBelow n (Arith op left right) = (left < n) × (right < n) × IsTrue (is_arithmetic op)
JoinsBelow n _ = Unit {0}

-- what is known of a comparison, by whether its sides are one tree and by their ranges
abbrev pub verdict_by : Op → (same : Bool) → Range → Range → Verdict
verdict_by op same left right = record { never = never_by op same left right; always = always_by op same left right }

-- each of the numbers is below this one
abbrev pub AreBelow : ℕ → List ℕ → Type 0
AreBelow n numbers = (k : ℕ) → k < length numbers → slice_index numbers k < n

-- what is known of the comparison at j, by the ranges of the nodes of its sides; one node is one tree
abbrev pub verdict_by_node : List Condition → List Range → (lefts rights : List ℕ) → ℕ → Verdict
verdict_by_node cs ranges lefts rights j =
    let left = slice_index lefts j in
    let right = slice_index rights j in
    verdict_by (condition_at cs j).op (left == right) (range_at ranges left) (range_at ranges right)

-- what is known of the comparison of the condition at j
abbrev pub verdict_at : List Condition → ℕ → Verdict
verdict_at cs j = record { never = never_at cs j; always = always_at cs j }
