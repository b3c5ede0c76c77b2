-- Nodes that spell the same are one node.
use Rattle.std.proofs.Common.{arith, ◌≡◌, ap, sym, subst, ◌∙◌, ℕ, zero, suc, ◌<◌, ◌≤◌, length, take, List, inl, inr}
use Rattle.std.proofs.Common.{◌⊎◌}
use Rattle.std.proofs.lemmas.Bool.{cases_lt}
use Rattle.std.proofs.lemmas.List.{length-take, get_or-take}
use Rattle.ra_operand.specs.declared.size.Size.{Size}
use Rattle.ra_operand.specs.declared.kind.Kind.{Kind}
use Rattle.ra_operand.specs.declared.op.Op.{Op}
use Rattle.ra_operand.specs.Views.{width_of}
use Rattle.ra_indirect.specs.declared.node.Node.{Node}
use Rattle.ra_indirect.specs.declared.node.Node.TheVariants.{Const, Cell as CellNode, View, Arith}
use Rattle.ra_indirect.specs.Trees.{Tree, constant, join, Cell}
use Rattle.ra_indirect.specs.Pools.{Spelled, IsTree, IsCell, tree_in, view_in, spelled_at, spelled_with, spelled_by}
use Rattle.ra_indirect.specs.Pools.{MayFollow, node_at, IsValued, IsCellOf}
use Rattle.ra_indirect.specs.Interned.{IsPool, IsAlone}
use Rattle.ra_indirect.proofs.PoolLemmas.{MayFollow-more}
use Rattle.ra_indirect.proofs.Spelling.{spelled_of}

-- a tree, or a cell of this width
abbrev pub GivesTree : Spelled → Type 0
GivesTree (IsTree tree) = Unit {0}
GivesTree (IsCell c) = ⊥

abbrev pub GivesCell : ℕ → Spelled → Type 0
GivesCell width (IsTree tree) = ⊥
GivesCell width (IsCell c) = c.width ≡ width

-- what is no cell spells a tree, and a cell spells a cell of its width
pub with_valued : (s : List Spelled) (node : Node) → IsValued node → GivesTree (spelled_with s node)
with_valued s (Const n) valued = tt
with_valued s (CellNode width pointer offset) valued = absurd valued
with_valued s (View kind size c) valued = tt
with_valued s (Arith op left right) valued = tt

pub with_cell : (s : List Spelled) (width : ℕ) (node : Node) → IsCellOf width node
    → GivesCell width (spelled_with s node)
with_cell s width (Const n) is = absurd is
with_cell s width (CellNode w pointer offset) is = is
with_cell s width (View kind size c) is = absurd is
with_cell s width (Arith op left right) is = absurd is

-- two trees, two views that are equal look at one
pub tree_same : (a b : Spelled) → GivesTree a → GivesTree b → tree_in a ≡ tree_in b → a ≡ b
tree_same (IsTree x) (IsTree y) left right same = ap IsTree same
tree_same (IsTree x) (IsCell d) left right same = absurd right
tree_same (IsCell c) b left right same = absurd left

cell_same : (c d : Cell) → c.pointer ≡ d.pointer → c.address ≡ d.address → c.width ≡ d.width → c ≡ d
cell_same c d pointer address width = λ i. record { pointer = pointer i; address = address i; width = width i }

pub view_same : (k k' : Kind) (s s' : Size) (a b : Spelled) → GivesCell (width_of s) a
    → GivesCell (width_of s') b → view_in k s a ≡ view_in k' s' b → (k ≡ k') × (s ≡ s') × (a ≡ b)
view_same k k' s s' (IsTree x) b left right same = absurd left
view_same k k' s s' (IsCell c) (IsTree y) left right same = absurd right
view_same k k' s s' (IsCell c) (IsCell d) left right same =
    let kinds : k ≡ k' = cc in
    let sizes : s ≡ s' = cc in
    let pointers : c.pointer ≡ d.pointer = cc in
    let addresses : c.address ≡ d.address = cc in
    let widths : c.width ≡ d.width = left ∙ ap width_of sizes ∙ sym right in
    (kinds, sizes, ap IsCell (cell_same c d pointers addresses widths))

-- a view of a cell is no constant and no join
no_constant : (k : Kind) (s : Size) (a : Spelled) (n : ℕ) → GivesCell (width_of s) a → constant n ≡ view_in k s a → ⊥
no_constant k s (IsTree x) n is same = absurd is
no_constant k s (IsCell c) n is same = cc

pub no_join : (k : Kind) (s : Size) (a : Spelled) (op : Op) (x y : Tree) → GivesCell (width_of s) a
    → join op x y ≡ view_in k s a → ⊥
no_join k s (IsTree t) op x y is same = absurd is
no_join k s (IsCell c) op x y is same = cc

-- the numbers that a node names
abbrev pub NamesBelow : ℕ → Node → Type 0
NamesBelow n (Const m) = Unit {0}
NamesBelow n (CellNode width pointer offset) = pointer < n
NamesBelow n (View kind size c) = c < n
NamesBelow n (Arith op left right) = (left < n) × (right < n)

pub names_below : (n : ℕ) (nodes : List Node) (node : Node) → length nodes ≤ n
    → MayFollow nodes node → NamesBelow n node
names_below n nodes (Const m) few may = tt
names_below n nodes (CellNode width pointer offset) few may = omega (arith, may.0)
names_below n nodes (View kind size c) few may = omega (arith, may.0)
names_below n nodes (Arith op left right) few may = (omega (arith, may.0), omega (arith, may.2))

pub tree_inside : (x y : Tree) → IsTree x ≡ IsTree y → x ≡ y
tree_inside x y same = cc

pub cell_inside : (c d : Cell) → IsCell c ≡ IsCell d → c ≡ d
cell_inside c d same = cc

module _ (nodes : List Node) (pool : IsPool nodes) where
  -- what the pool spells at a number
  abbrev at : ℕ → Spelled
  at n = spelled_at (spelled_by nodes) n

  -- each node of a pool may follow the whole pool
  pub may_follow : (k : ℕ) → k < length nodes → MayFollow nodes (node_at nodes k)
  may_follow k within =
      MayFollow-more (take k nodes) nodes (node_at nodes k) (omega (arith, length-take k nodes))
      (λ i below. sym (get_or-take k nodes i (Const 0) (omega (arith, length-take k nodes)))) (pool.named k within)

  pub tree_at_valued : (k : ℕ) → k < length nodes → IsValued (node_at nodes k) → GivesTree (at k)
  tree_at_valued k within valued =
      subst GivesTree (sym (spelled_of nodes pool k within)) (with_valued (spelled_by nodes) (node_at nodes k) valued)

  pub cell_at_cell : (width k : ℕ) → k < length nodes → IsCellOf width (node_at nodes k) → GivesCell width (at k)
  cell_at_cell width k within is =
      subst (GivesCell width) (sym (spelled_of nodes pool k within))
      (with_cell (spelled_by nodes) width (node_at nodes k) is)

  -- numbers below n spell what no other number spells
  abbrev AloneBelow : ℕ → Type 0
  AloneBelow n = (p q : ℕ) → p < n → q < length nodes → at p ≡ at q → p ≡ q

  module _ (n : ℕ) (alone : AloneBelow n) where
    -- trees that are equal stand at one number
    one_tree : (p q : ℕ) → p < n → n ≤ length nodes → (q < length nodes) → IsValued
        (node_at nodes p) → IsValued (node_at nodes q) → tree_in (at p) ≡ tree_in (at q) → p ≡ q
    one_tree p q below few within left right same =
        alone p q below within
        (tree_same (at p) (at q) (tree_at_valued p (omega arith) left) (tree_at_valued q within right) same)

    node_same : (x y : Node) → n ≤ length nodes → NamesBelow n x → MayFollow nodes x → MayFollow
        nodes y → spelled_with (spelled_by nodes) x ≡ spelled_with (spelled_by nodes) y → x ≡ y
    node_same (Const a) (Const b) few names may may' same = let one : a ≡ b = cc in ap Const one
    node_same (Const a) (CellNode w p o) few names may may' same = absurd (cc)
    node_same (Const a) (View k s c) few names may may' same =
        absurd (no_constant k s (at c) a (cell_at_cell (width_of s) c may'.0 may'.1) (tree_inside _ _ same))
    node_same (Const a) (Arith op l r) few names may may' same = absurd (cc)
    node_same (CellNode w p o) (Const b) few names may may' same = absurd (cc)
    node_same (CellNode w p o) (CellNode w' p' o') few names may may' same =
        let one = cell_inside _ _ same in
        let pointers = one_tree p p' names few may'.0 may.1 may'.1 (ap (λ c. c.pointer) one) in
        (λ i. CellNode (one i).width (pointers i) (one i).address)
    node_same (CellNode w p o) (View k s c) few names may may' same = absurd (cc)
    node_same (CellNode w p o) (Arith op l r) few names may may' same = absurd (cc)
    node_same (View k s c) (Const b) few names may may' same =
        absurd (no_constant k s (at c) b (cell_at_cell (width_of s) c may.0 may.1) (sym (tree_inside _ _ same)))
    node_same (View k s c) (CellNode w p o) few names may may' same = absurd (cc)
    node_same (View k s c) (View k' s' c') few names may may' same =
        let one = view_same k k' s s' (at c) (at c') (cell_at_cell (width_of s) c may.0 may.1)
        (cell_at_cell (width_of s') c' may'.0 may'.1) (tree_inside _ _ same) in
        let cells = alone c c' names may'.0 one.2 in
        (λ i. View (one.0 i) (one.1 i) (cells i))
    node_same (View k s c) (Arith op l r) few names may may' same =
        absurd (no_join k s (at c) op (tree_in (at l)) (tree_in (at r))
        (cell_at_cell (width_of s) c may.0 may.1) (sym (tree_inside _ _ same)))
    node_same (Arith op l r) (Const b) few names may may' same = absurd (cc)
    node_same (Arith op l r) (CellNode w p o) few names may may' same = absurd (cc)
    node_same (Arith op l r) (View k s c) few names may may' same =
        absurd (no_join k s (at c) op (tree_in (at l)) (tree_in (at r))
        (cell_at_cell (width_of s) c may'.0 may'.1) (tree_inside _ _ same))
    node_same (Arith op l r) (Arith op' l' r') few names may may' same =
        let ops : op ≡ op' = cc in
        let lefts = one_tree l l' names.0 few may'.0 may.1 may'.1 (let e : tree_in (at l)
        ≡ tree_in (at l') = cc in e) in
        let rights = one_tree r r' names.1 few may'.2 may.3 may'.3 (let e : tree_in (at r)
        ≡ tree_in (at r') = cc in e) in
        (λ i. Arith (ops i) (lefts i) (rights i))

  number_by : (p q : ℕ) → q < length nodes → p < length nodes → node_at nodes p ≡ node_at nodes q
      → (p < q) ⊎ (q ≤ p) → (q < p) ⊎ (p ≤ q) → p ≡ q
  number_by p q within' within same (inl less) other = absurd (pool.once p q less within' same)
  number_by p q within' within same (inr more) (inl less) = absurd (pool.once q p less within (sym same))
  number_by p q within' within same (inr more) (inr more') = omega arith

  alone_at : (n : ℕ) → n < length nodes → AloneBelow n → (q : ℕ) → q < length nodes → at n ≡ at q → n ≡ q
  alone_at n few alone q within same =
      number_by n q within few
      (node_same n alone (node_at nodes n) (node_at nodes q) (omega arith)
      (names_below n (take n nodes) (node_at nodes n) (omega (arith, length-take n nodes))
      (pool.named n few)) (may_follow n few) (may_follow q within)
      (sym (spelled_of nodes pool n few) ∙ same ∙ spelled_of nodes pool q within))
      (cases_lt n q) (cases_lt q n)

  alone_by : (n : ℕ) → AloneBelow n → ((q : ℕ) → q < length nodes → at n ≡ at q → n ≡ q) → (p q : ℕ)
      → p < suc n → q < length nodes → at p ≡ at q → (p < n) ⊎ (n ≤ p) → p ≡ q
  alone_by n alone here p q below within same (inl less) = alone p q less within same
  alone_by n alone here p q below within same (inr more) =
      let last : n ≡ p = omega arith in
      sym last ∙ here q within (ap at last ∙ same)

  -- equal trees have equal numbers, and so have equal cells
  pub alone_below : (n : ℕ) → n ≤ length nodes → AloneBelow n
  alone_below zero few p q below within same = absurd (omega arith)
  alone_below (suc n) few p q below within same =
      let earlier = alone_below n (omega arith) in
      alone_by n earlier (alone_at n (omega arith) earlier) p q below within same (cases_lt p n)

  pub all_alone : (n : ℕ) → n < length nodes → IsAlone nodes n
  all_alone n within k within' same = alone_below (length nodes) (omega arith) k n within' within same
