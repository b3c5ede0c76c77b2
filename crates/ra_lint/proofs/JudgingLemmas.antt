-- The ranges of a pool's nodes, and the verdicts by nodes.
use Rattle.std.proofs.Common.{◌≡◌, ℕ, ◌+◌, ◌<◌, Bool, true, false, eqb, List, [], ◌∷◌, ◌++◌, length, take, map, get_or}
use Rattle.std.proofs.Common.{refl, sym, ap, ap₂, ◌∙◌, subst, inl, inr, arith, length-append, length-take}
use Rattle.std.proofs.lemmas.Bool.{ne_eqb, eq-eqb}
use Rattle.std.proofs.lemmas.List.{get_or_append_left, get_or_push, get_or-map, length-map, ext_get_or}
use Rattle.std.proofs.lemmas.List.FromFn.{fill_by_all, length-map-range_with_len, get_or-map-range_with_len}
use Rattle.ra_operand.specs.declared.kind.Kind.{Kind}
use Rattle.ra_operand.specs.declared.size.Size.{Size}
use Rattle.ra_operand.specs.Views.{width_of}
use Rattle.ra_condition.specs.declared.condition.Condition.{Condition}
use Rattle.ra_condition.specs.Contents.{condition_at}
use Rattle.ra_condition.specs.Chains.{places}
use Rattle.ra_indirect.specs.declared.node.Node.{Node}
use Rattle.ra_indirect.specs.declared.node.Node.TheVariants.{Const, Cell as CellNode, View, Arith}
use Rattle.ra_indirect.specs.Trees.{Tree, constant, same_tree}
use Rattle.ra_indirect.specs.Pools.{Spelled, IsTree, IsCell, tree_in, view_in, spelled_at, spelled_with, spelled_by}
use Rattle.ra_indirect.specs.Pools.{Spells, MayFollow, node_at}
use Rattle.ra_indirect.specs.Interned.{IsPool}
use Rattle.ra_indirect.proofs.Spelling.{length-spelled_by, spelled_of}
use Rattle.ra_indirect.proofs.SpelledLemmas.{GivesCell, NamesBelow, names_below, may_follow, cell_at_cell, all_alone}
use Rattle.ra_indirect.proofs.PoolLemmas.{below_or_last}
use Rattle.ra_indirect.proofs.SameLemmas.{tree_is, tree_itself}
use Rattle.ra_chain.specs.Elaborates.{SpellsEach}
use Rattle.ra_chain.specs.Elaboration.{left_of, right_of}
use Rattle.ra_chain.proofs.PlantLemmas.{spells_at, spells_within}
use Rattle.ra_lint.specs.declared.range.Range.{Range}
use Rattle.ra_lint.specs.Ranges.{any_number, range_of, view_range, operator_range}
use Rattle.ra_lint.specs.Ordered.{IsOrdered, AreOrdered, range_at}
use Rattle.ra_lint.specs.Verdicts.{never_by, always_by}
use Rattle.ra_lint.specs.Judging.{ranges_in, node_range, JoinsBelow, verdict_by_node, verdict_at}

-- a view of a cell has the range of the view
viewed : (kind : Kind) (size : Size) (width : ℕ) (x : Spelled) → GivesCell width x
    → range_of (view_in kind size x) ≡ view_range kind size
viewed kind size width (IsTree tree) gives = absurd gives
viewed kind size width (IsCell c) gives = refl

-- the tree that the node of a number spells
abbrev pub tree_of : List Node → ℕ → Tree
tree_of nodes k = tree_in (spelled_at (spelled_by nodes) k)

-- the ranges of the nodes below a number
pub record IsRanged (nodes : List Node) (ranges : List Range) (count : ℕ) : Type 0 where
  pub whole : length ranges ≡ count
  pub each : (k : ℕ) → k < count → range_at ranges k ≡ range_of (tree_of nodes k)
  pub ordered : AreOrdered ranges

module _ (nodes : List Node) (pool : IsPool nodes) where
  -- the range of a node by those before it
  by_node : (ranges : List Range) (n : ℕ) (node : Node) → MayFollow nodes node → NamesBelow n node
      → ((k : ℕ) → k < n → range_at ranges k ≡ range_of (tree_of nodes k))
      → node_range ranges node ≡ range_of (tree_in (spelled_with (spelled_by nodes) node))
  by_node ranges n (Const m) may names each = refl
  by_node ranges n (CellNode width pointer offset) may names each = refl
  by_node ranges n (View kind size c) may names each =
      sym (viewed kind size (width_of size) (spelled_at (spelled_by nodes) c)
      (cell_at_cell nodes pool (width_of size) c may.0 may.1))
  by_node ranges n (Arith op left right) may names each = ap₂ (operator_range op) (each left names.0)
      (each right names.1)

  names : (k : ℕ) → k < length nodes → NamesBelow k (node_at nodes k)
  names k within = names_below k (take k nodes) (node_at nodes k) (omega (arith, length-take k nodes))
      (pool.named k within)

  -- a node joins what stands before it
  pub joins_below : (ranges : List Range) (k : ℕ) → k < length nodes → IsRanged nodes ranges k
      → JoinsBelow (length ranges) (node_at nodes k)
  joins_below ranges k within is = by_kind (node_at nodes k) (may_follow nodes pool k within) (names k within)
    where
      by_kind : (node : Node) → MayFollow nodes node → NamesBelow k node → JoinsBelow (length ranges) node
      by_kind (Const m) may below = tt
      by_kind (CellNode width pointer offset) may below = tt
      by_kind (View kind size c) may below = tt
      by_kind (Arith op left right) may below =
          (omega (arith, below.0, is.whole), omega (arith, below.1, is.whole), may.4)

  -- one node more
  pub ranged_more : (ranges : List Range) (r : Range) (k : ℕ) → k < length nodes → IsRanged nodes ranges k
      → r ≡ node_range ranges (node_at nodes k) → IsOrdered r → IsRanged nodes (ranges ++ r ∷ []) (k + 1)
  ranged_more ranges r k within is same ordered = record {
    whole = omega (arith, length-append ranges (r ∷ []), is.whole);
    each = λ j below. elim (below_or_last j k below) [
      | inl less ↦ get_or_append_left ranges (r ∷ []) any_number j (omega (arith, is.whole)) ∙ is.each j less
      | inr last ↦ get_or_push ranges r any_number j (omega (arith, is.whole)) ∙ here
          ∙ ap (λ n. range_of (tree_of nodes n)) (sym last)
    ];
    ordered = λ j below. elim (below_or_last j k (omega (arith, length-append ranges (r ∷ []), is.whole))) [
      | inl less ↦ subst IsOrdered (sym (get_or_append_left ranges (r ∷ []) any_number j (omega (arith, is.whole))))
          (is.ordered j (omega (arith, is.whole)))
      | inr last ↦ subst IsOrdered (sym (get_or_push ranges r any_number j (omega (arith, is.whole)))) ordered
    ];
  }
    where
      here : r ≡ range_of (tree_of nodes k)
      here =
          same ∙ by_node ranges k (node_at nodes k) (may_follow nodes pool k within) (names k within) is.each
          ∙ ap (λ x. range_of (tree_in x)) (sym (spelled_of nodes pool k within))

  -- the range at a number
  range_in : (k : ℕ) → k < length nodes → range_at (ranges_in nodes) k ≡ range_of (tree_of nodes k)
  range_in k within = get_or-map (λ x. range_of (tree_in x)) (spelled_by nodes) k (IsTree (constant 0)) any_number
      (omega (arith, length-spelled_by nodes))

  -- all nodes
  pub ranged_all : (ranges : List Range) → IsRanged nodes ranges (length nodes) → ranges ≡ ranges_in nodes
  ranged_all ranges is =
      ext_get_or any_number ranges (ranges_in nodes)
      (omega (arith, is.whole, length-map (spelled_by nodes) (λ x. range_of (tree_in x)), length-spelled_by nodes))
      (λ k below. is.each k (omega (arith, is.whole)) ∙ sym (range_in k (omega (arith, is.whole))))

  -- two nodes are one exactly where their trees are
  same_node : (l r : ℕ) (left right : Tree) → Spells nodes l left → Spells nodes r right
      → eqb l r ≡ same_tree left right
  same_node l r left right spells spells' = by_same (same_tree left right) refl
    where
      by_same : (b : Bool) → same_tree left right ≡ b → eqb l r ≡ b
      by_same true same =
          eq-eqb l r (all_alone nodes pool r (spells_within nodes r right spells') l (spells_within nodes l left spells)
          (spells_at nodes l left spells ∙ ap IsTree (tree_is left right same) ∙ sym (spells_at nodes r right spells')))
      by_same false other =
          ne_eqb l r (λ one. let trees : IsTree left ≡ IsTree right = sym (spells_at nodes l left spells)
          ∙ ap (spelled_at (spelled_by nodes)) one ∙ spells_at nodes r right spells' in
          let equal : left ≡ right = cc in
          let same : same_tree left right ≡ true = subst (λ tree. same_tree left tree ≡ true) equal
          (tree_itself left) in
          let bad : false ≡ true = sym other ∙ same in
          absurd (cc))

  module _ (cs : List Condition) (ranges : List Range) (lefts rights : List ℕ) (all : ranges ≡ ranges_in nodes)
      (spells : SpellsEach nodes lefts (length cs) (left_of cs))
      (spells' : SpellsEach nodes rights (length cs) (right_of cs)) where
    range_spelled : (n : ℕ) (tree : Tree) → Spells nodes n tree → range_at ranges n ≡ range_of tree
    range_spelled n tree is =
        ap (λ rs. range_at rs n) all ∙ range_in n (spells_within nodes n tree is)
        ∙ ap (λ x. range_of (tree_in x)) (spells_at nodes n tree is)

    -- the verdict by the nodes of both sides is that by their trees
    pub verdict_same : (j : ℕ) → j < length cs → verdict_by_node cs ranges lefts rights j ≡ verdict_at cs j
    verdict_same j within =
        let op = (condition_at cs j).op in
        let left = spells.each j within in
        let right = spells'.each j within in
        let one = same_node (get_or lefts j 0) (get_or rights j 0) (left_of cs j) (right_of cs j) left right in
        let first = range_spelled (get_or lefts j 0) (left_of cs j) left in
        let second = range_spelled (get_or rights j 0) (right_of cs j) right in
        (λ i. record {
          never = never_by op (one i) (first i) (second i);
          always = always_by op (one i) (first i) (second i);
        })

    pub verdicts_same : map (verdict_by_node cs ranges lefts rights) (places cs) ≡ map (verdict_at cs) (places cs)
    verdicts_same =
        fill_by_all (verdict_at cs) (map (verdict_by_node cs ranges lefts rights) (places cs)) (length cs)
        (verdict_at cs 0) (length-map-range_with_len (verdict_by_node cs ranges lefts rights) 0 (length cs))
        (λ k below. get_or-map-range_with_len (verdict_by_node cs ranges lefts rights) 0 (length cs) k k
        (verdict_at cs 0) below (omega arith) ∙ verdict_same k below)

    -- the nodes of both sides have ranges
    pub below_all : (numbers : List ℕ) (tree : ℕ → Tree) → SpellsEach nodes numbers (length cs) tree → (k : ℕ)
        → k < length numbers → get_or numbers k 0 < length ranges
    below_all numbers tree each k within =
        omega (
          arith,
          spells_within nodes (get_or numbers k 0) (tree k) (each.each k (omega (arith, each.as_many))),
          ap length all,
          length-map (spelled_by nodes) (λ x. range_of (tree_in x)),
          length-spelled_by nodes,
        )
