-- The direct cells of a pool, node by node.
use Rattle.std.proofs.Common.{◌≡◌, ℕ, suc, ◌+◌, ◌<◌, List, [], ◌∷◌, ◌++◌, length, take, refl, ◌∙◌, ap, arith}
use Rattle.std.specs.List.{flat_map}
use Rattle.std.proofs.Math.Seq.{take-suc}
use Rattle.std.proofs.lemmas.List.{append-nil}
use Rattle.std.proofs.lemmas.List.Concat.{flat_map-append}
use Rattle.ra_operand.specs.declared.kind.Kind.{Kind}
use Rattle.ra_operand.specs.declared.size.Size.{Size}
use Rattle.ra_operand.specs.Views.{width_of}
use Rattle.ra_indirect.specs.declared.node.Node.{Node}
use Rattle.ra_indirect.specs.declared.node.Node.TheVariants.{Const, Cell as CellNode, View, Arith}
use Rattle.ra_indirect.specs.Interned.{IsPool}
use Rattle.ra_indirect.specs.Pools.{Spelled, IsTree, IsCell, MayFollow, IsValued, cell_in, node_at, spelled_at}
use Rattle.ra_indirect.specs.Pools.{spelled_by, spelled_with, tree_in, view_in}
use Rattle.ra_indirect.specs.Trees.{constant}
use Rattle.ra_indirect.proofs.SpelledLemmas.{GivesCell, cell_at_cell, may_follow}
use Rattle.ra_indirect.proofs.Spelling.{length-spelled_by, spelled_of}
use Rattle.ra_memref.specs.Layout.{cells_before}
use Rattle.ra_runtime.specs.Cells.{direct_by, direct_cell, direct_in, direct_of, direct_with}

-- a view of a cell is no constant
no_direct : (offset width : ℕ) (kind : Kind) (size : Size) (a : Spelled)
    → GivesCell (width_of size) a → direct_by offset width (view_in kind size a) ≡ []
no_direct offset width kind size (IsTree tree) gives = absurd gives
no_direct offset width kind size (IsCell c) gives = refl

module _ (nodes : List Node) (pool : IsPool nodes) where
  abbrev at : ℕ → Spelled
  at n = spelled_at (spelled_by nodes) n

  -- a cell by the tree of its pointer is that by the node of its pointer
  by_node : (offset width : ℕ) (pointer : Node) → IsValued pointer → MayFollow nodes pointer
      → direct_by offset width (tree_in (spelled_with (spelled_by nodes) pointer))
      ≡ direct_with offset width pointer
  by_node offset width (Const n) valued may = refl
  by_node offset width (CellNode w p o) valued may = absurd valued
  by_node offset width (View kind size c) valued may = no_direct offset width kind size (at c)
      (cell_at_cell nodes pool (width_of size) c may.0 may.1)
  by_node offset width (Arith op left right) valued may = refl

  node_direct : (node : Node) → MayFollow nodes node
      → direct_of (cell_in (spelled_with (spelled_by nodes) node)) ≡ direct_in nodes node
  node_direct (Const n) may = refl
  node_direct (CellNode width pointer offset) may =
      append-nil (direct_by offset width (tree_in (at pointer)))
      ∙ ap (λ s. direct_by offset width (tree_in s)) (spelled_of nodes pool pointer may.0)
      ∙ by_node offset width (node_at nodes pointer) may.1 (may_follow nodes pool pointer may.0)
  node_direct (View kind size c) may = refl
  node_direct (Arith op left right) may = refl

  -- one node more
  pub direct_next : (k : ℕ) → k < length nodes → direct_of (cells_before (spelled_by nodes) (k + 1))
      ≡ direct_of (cells_before (spelled_by nodes) k) ++ direct_in nodes (node_at nodes k)
  direct_next k within =
      let spelled = spelled_by nodes in
      let inside : k < length spelled = omega (arith, within, length-spelled_by nodes) in
      let next : k + 1 ≡ suc k = omega arith in
      ap (λ n. direct_of (cells_before spelled n)) next
      ∙ ap (λ xs. direct_of (flat_map cell_in xs)) (take-suc spelled k (IsTree (constant 0)) inside)
      ∙ ap direct_of (flat_map-append cell_in (take k spelled) (at k ∷ [])
      ∙ ap (λ xs. cells_before spelled k ++ xs) (append-nil (cell_in (at k))))
      ∙ flat_map-append direct_cell (cells_before spelled k) (cell_in (at k))
      ∙ ap (λ s. direct_of (cells_before spelled k) ++ direct_of (cell_in s)) (spelled_of nodes pool k within)
      ∙ ap (λ xs. direct_of (cells_before spelled k) ++ xs)
      (node_direct (node_at nodes k) (may_follow nodes pool k within))
