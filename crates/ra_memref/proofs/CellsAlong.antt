-- What is taken of each cell of the first so many nodes.
use Rattle.std.proofs.Common.{◌≡◌, ℕ, suc, ◌+◌, ◌<◌, List, [], ◌∷◌, ◌++◌, length, map, refl, ap, sym, ◌∙◌, arith}
use Rattle.std.proofs.lemmas.List.{map-append}
use Rattle.ra_indirect.specs.declared.node.Node.{Node}
use Rattle.ra_indirect.specs.declared.node.Node.TheVariants.{Const, Cell as CellNode, View, Arith}
use Rattle.ra_indirect.specs.Trees.{Cell}
use Rattle.ra_indirect.specs.Pools.{Spelled, tree_in, cell_in, spelled_at, spelled_with, spelled_by, node_at}
use Rattle.ra_indirect.specs.Interned.{IsPool}
use Rattle.ra_indirect.proofs.Spelling.{spelled_of, length-spelled_by}
use Rattle.ra_memref.specs.Layout.{cells_before}
use Rattle.ra_memref.proofs.LaidLemmas.{cells_one, cells_same}

-- the cell that a node of a pool spells
abbrev pub cell_with : List Node → (pointer offset width : ℕ) → Cell
cell_with nodes pointer offset width =
    record { pointer = tree_in (spelled_at (spelled_by nodes) pointer); address = offset; width = width }

-- a node that is none spells none
pub no_cell_with : (spelled : List Spelled) (node : Node)
    → ((pointer offset width : ℕ) → node ≡ CellNode width pointer offset → ⊥) → cell_in (spelled_with spelled node) ≡ []
no_cell_with spelled (Const n) other = refl
no_cell_with spelled (CellNode width pointer offset) other = absurd (other pointer offset width refl)
no_cell_with spelled (View kind size c) other = refl
no_cell_with spelled (Arith op left right) other = refl

module _ (nodes : List Node) (pool : IsPool nodes) (X : Type 0) (f : Cell → X) (xs : List X) (k : ℕ)
    (within : k < length nodes) (are : xs ≡ map f (cells_before (spelled_by nodes) k)) where
  inside : k < length (spelled_by nodes)
  inside = omega (arith, within, length-spelled_by nodes)

  next : k + 1 ≡ suc k
  next = omega arith

  -- a cell comes last
  pub along_cell : (pointer offset width : ℕ) → node_at nodes k ≡ CellNode width pointer offset
      → xs ++ f (cell_with nodes pointer offset width) ∷ [] ≡ map f (cells_before (spelled_by nodes) (k + 1))
  along_cell pointer offset width same =
      let is = spelled_of nodes pool k within ∙ ap (spelled_with (spelled_by nodes)) same in
      let one = cells_one (spelled_by nodes) k (cell_with nodes pointer offset width) inside is in
      ap (λ ys. ys ++ f (cell_with nodes pointer offset width) ∷ []) are
      ∙ sym (map-append f (cells_before (spelled_by nodes) k) (cell_with nodes pointer offset width ∷ []))
      ∙ ap (map f) (sym one) ∙ ap (λ n. map f (cells_before (spelled_by nodes) n)) (sym next)

  -- another node adds none
  pub along_same : (node : Node) → node_at nodes k ≡ node
      → ((pointer offset width : ℕ) → node ≡ CellNode width pointer offset → ⊥)
      → xs ≡ map f (cells_before (spelled_by nodes) (k + 1))
  along_same node same other =
      let is = spelled_of nodes pool k within ∙ ap (spelled_with (spelled_by nodes)) same in
      let one = cells_same (spelled_by nodes) k (spelled_with (spelled_by nodes) node) inside is
      (no_cell_with (spelled_by nodes) node other) in
      are ∙ ap (map f) (sym one) ∙ ap (λ n. map f (cells_before (spelled_by nodes) n)) (sym next)
