-- A pool has the cells and the tracked masks of each tree that one of its nodes spells.
use Rattle.std.proofs.Common.{◌≡◌, ℕ, ◌<◌, length, List, [], ◌∷◌, refl, ap, sym, ◌∙◌}
use Rattle.ra_operand.specs.declared.size.Size.{Size}
use Rattle.ra_operand.specs.declared.kind.Kind.{Kind}
use Rattle.ra_operand.specs.declared.op.Op.{Op}
use Rattle.ra_operand.specs.Views.{width_of}
use Rattle.ra_indirect.specs.declared.node.Node.{Node}
use Rattle.ra_indirect.specs.declared.node.Node.TheVariants.{Const, Cell as CellNode, View, Arith}
use Rattle.ra_indirect.specs.Trees.{Tree, constant, join, view, Cell, cell_of, same_cell, same_tracked, cells_in}
use Rattle.ra_indirect.specs.Trees.{tracked_in, tracked_by}
use Rattle.ra_indirect.specs.Pools.{Spelled, IsTree, IsCell, tree_in, view_in, spelled_at, spelled_with, spelled_by}
use Rattle.ra_indirect.specs.Pools.{MayFollow, node_at, IsValued, IsCellOf, cells_of, tracked_of}
use Rattle.ra_indirect.specs.Interned.{IsPool}
use Rattle.ra_indirect.specs.Growing.{grown}
use Rattle.ra_indirect.proofs.Spelling.{spelled_of}
use Rattle.ra_indirect.proofs.SpelledLemmas.{GivesTree, GivesCell, no_join, tree_inside, cell_inside, may_follow}
use Rattle.ra_indirect.proofs.SpelledLemmas.{tree_at_valued, cell_at_cell}
use Rattle.ra_indirect.proofs.GrowingLemmas.{grown-append, cells_had, tracked_had}

is_tree : (a : Spelled) → GivesTree a → a ≡ IsTree (tree_in a)
is_tree (IsTree x) gives = refl
is_tree (IsCell c) gives = absurd gives

view_parts : (k k' : Kind) (s s' : Size) (p : Tree) (address : ℕ) (x : Spelled) → GivesCell
    (width_of s') x → view_in k' s' x ≡ view k s p address → x ≡ IsCell (cell_of s p address)
view_parts k k' s s' p address (IsTree t) gives same = absurd gives
view_parts k k' s s' p address (IsCell c) gives same =
    let sizes : s' ≡ s = cc in
    let pointers : c.pointer ≡ p = cc in
    let addresses : c.address ≡ address = cc in
    let widths : c.width ≡ width_of s = gives ∙ ap width_of sizes in
    (λ i. IsCell (record { pointer = pointers i; address = addresses i; width = widths i }))

module _ (nodes : List Node) (pool : IsPool nodes) where
  abbrev at : ℕ → Spelled
  at n = spelled_at (spelled_by nodes) n

  -- a node that spells a tree
  record IsSpelledBy (tree : Tree) : Type 0 where
    number : ℕ
    within : number < length nodes
    is : at number ≡ IsTree tree

  record JoinsNodes (left right : Tree) : Type 0 where
    first : IsSpelledBy left
    second : IsSpelledBy right

  valued_is : (n : ℕ) (tree : Tree) → n < length nodes → IsValued (node_at nodes n) → tree_in (at n)
      ≡ tree → IsSpelledBy tree
  valued_is n tree within valued same = record {
    number = n;
    within = within;
    is = is_tree (at n) (tree_at_valued nodes pool n within valued) ∙ ap IsTree same;
  }

  joins : (op : Op) (left right : Tree) (node : Node) → MayFollow nodes node
      → spelled_with (spelled_by nodes) node ≡ IsTree (join op left right) → JoinsNodes left right
  joins op left right (Const n) may same = absurd (cc)
  joins op left right (CellNode width pointer offset) may same = absurd (cc)
  joins op left right (View k s c) may same =
      absurd (no_join k s (at c) op left right (cell_at_cell nodes pool (width_of s) c may.0 may.1)
      (sym (tree_inside _ _ same)))
  joins op left right (Arith o a b) may same =
      let lefts : tree_in (at a) ≡ left = cc in
      let rights : tree_in (at b) ≡ right = cc in
      record { first = valued_is a left may.0 may.1 lefts; second = valued_is b right may.2 may.3 rights }

  pointer_by : (c : Cell) (width : ℕ) (node : Node) → IsCellOf width node → MayFollow nodes node
      → spelled_with (spelled_by nodes) node ≡ IsCell c → IsSpelledBy c.pointer
  pointer_by c width (Const n) is may same = absurd is
  pointer_by c width (CellNode w pointer offset) is may same =
      valued_is pointer c.pointer may.0 may.1 (ap (λ d. d.pointer) (cell_inside _ _ same))
  pointer_by c width (View k s d) is may same = absurd is
  pointer_by c width (Arith o a b) is may same = absurd is

  record ViewsNodes (size : Size) (pointer : Tree) (address : ℕ) : Type 0 where
    number : ℕ
    within : number < length nodes
    is : at number ≡ IsCell (cell_of size pointer address)
    moved : IsSpelledBy pointer

  views : (kind : Kind) (size : Size) (pointer : Tree) (address : ℕ) (node : Node)
      → MayFollow nodes node → spelled_with (spelled_by nodes) node
      ≡ IsTree (view kind size pointer address) → ViewsNodes size pointer address
  views kind size pointer address (Const n) may same = absurd (cc)
  views kind size pointer address (CellNode width p offset) may same = absurd (cc)
  views kind size pointer address (View k s c) may same =
      let is : at c ≡ IsCell (cell_of size pointer address) = view_parts kind k size s pointer
      address (at c) (cell_at_cell nodes pool (width_of s) c may.0 may.1) (tree_inside _ _ same) in
      record {
        number = c;
        within = may.0;
        is = is;
        moved = pointer_by (cell_of size pointer address) (width_of s) (node_at nodes c) may.1
            (may_follow nodes pool c may.0) (sym (spelled_of nodes pool c may.0) ∙ is);
      }
  views kind size pointer address (Arith o a b) may same = absurd (cc)

  -- all cells and tracked masks of the tree are there
  pub record HasAll (tree : Tree) : Type 0 where
    pub cells : grown same_cell (cells_of nodes) (cells_in tree) ≡ cells_of nodes
    pub tracked : grown same_tracked (tracked_of nodes) (tracked_in tree) ≡ tracked_of nodes

  closed_at : (tree : Tree) (n : ℕ) → n < length nodes → at n ≡ IsTree tree → HasAll tree
  closed_at (constant m) n within is = record { cells = refl; tracked = refl }
  closed_at (join op left right) n within is =
      let parts = joins op left right (node_at nodes n) (may_follow nodes pool n within)
      (sym (spelled_of nodes pool n within) ∙ is) in
      let first = closed_at left parts.first.number parts.first.within parts.first.is in
      let second = closed_at right parts.second.number parts.second.within parts.second.is in
      record {
        cells = grown-append same_cell (cells_of nodes) (cells_in left) (cells_in right)
            ∙ ap (λ cs. grown same_cell cs (cells_in right)) first.cells ∙ second.cells;
        tracked = grown-append same_tracked (tracked_of nodes) (tracked_in left) (tracked_in right)
            ∙ ap (λ ts. grown same_tracked ts (tracked_in right)) first.tracked ∙ second.tracked;
      }
  closed_at (view kind size pointer address) n within is =
      let parts = views kind size pointer address (node_at nodes n) (may_follow nodes pool n within)
      (sym (spelled_of nodes pool n within) ∙ is) in
      let moved = closed_at pointer parts.moved.number parts.moved.within parts.moved.is in
      record {
        cells = grown-append same_cell (cells_of nodes) (cells_in pointer)
            (cell_of size pointer address ∷ []) ∙ ap
            (λ cs. grown same_cell cs (cell_of size pointer address ∷ [])) moved.cells ∙ cells_had
            nodes parts.number (IsCell (cell_of size pointer address)) parts.within parts.is;
        tracked = grown-append same_tracked (tracked_of nodes) (tracked_in pointer)
            (tracked_by kind size (cell_of size pointer address))
            ∙ ap (λ ts. grown same_tracked ts (tracked_by kind size (cell_of size pointer address)))
            moved.tracked ∙ tracked_had nodes n (IsTree (view kind size pointer address)) within is;
      }

  -- what a node spells is closed
  pub closed : (tree : Tree) (n : ℕ) → n < length nodes → at n ≡ IsTree tree → HasAll tree
  closed tree n within is = closed_at tree n within is
