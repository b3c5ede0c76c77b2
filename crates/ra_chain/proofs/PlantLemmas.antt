-- How a pool grows by one node and by several calls.
use Rattle.std.proofs.Common.{◌≡◌, ℕ, ◌+◌, ◌<◌, ◌≤◌, List, [], ◌∷◌, ◌++◌, length, Option, None, Some, refl, ap, ap₂}
use Rattle.std.proofs.Common.{subst, sym, ◌∙◌, inl, inr, arith, append_assoc, length-append, filter}
use Rattle.std.specs.List.{flat_map}
use Rattle.std.proofs.lemmas.List.{append-nil}
use Rattle.std.proofs.lemmas.List.Elements.{filter-append}
use Rattle.std.proofs.lemmas.List.Concat.{flat_map-append}
use Rattle.std.proofs.lemmas.Option.{slice_get-get_or, get_or_from_slice_get, slice_get_within}
use Rattle.ra_operand.specs.declared.size.Size.{Size}
use Rattle.ra_operand.specs.declared.kind.Kind.{Kind}
use Rattle.ra_operand.specs.declared.op.Op.{Op}
use Rattle.ra_operand.specs.Views.{width_of}
use Rattle.ra_indirect.specs.declared.node.Node.{Node}
use Rattle.ra_indirect.specs.declared.node.Node.TheVariants.{Const, Cell as CellNode, View, Arith}
use Rattle.ra_indirect.specs.Trees.{Tree, constant, join, view, Cell, cell_of, same_cell, same_tracked, cells_in}
use Rattle.ra_indirect.specs.Trees.{tracked_in, tracked_by}
use Rattle.ra_indirect.specs.Pools.{Spelled, IsTree, IsCell, IsCellOf, tree_in, spelled_at, spelled_with, spelled_by}
use Rattle.ra_indirect.specs.Pools.{Spells, IsValued, node_at, cells_of, tracked_of, cell_in, tracked_at, view_in}
use Rattle.ra_indirect.specs.Interned.{IsPool, Interns}
use Rattle.ra_indirect.specs.Growing.{grown, IsFront, GrowsBy, GainsNode, is_view}
use Rattle.ra_indirect.proofs.Spelling.{length-spelled_by, spelled_by-append, spelled_of}
use Rattle.ra_indirect.proofs.GrowingLemmas.{grown-append, cells_of-push}
use Rattle.ra_indirect.proofs.ClosedLemmas.{closed}
use Rattle.ra_indirect.proofs.SpelledLemmas.{cell_inside, GivesTree, with_valued}
use Rattle.ra_indirect.proofs.PoolLemmas.{node_at-append}
use Rattle.ra_operand.specs.declared.op.Op.TheVariants.{Sub}
use Rattle.ra_chain.specs.Elaboration.{subtracted}
use Rattle.ra_chain.specs.Planting.{Names, SpellsSum, Plants, IsKept, cells_at, views_at}

-- the node of a number spells the tree
pub spells_from : (nodes : List Node) (n : ℕ) (tree : Tree) → n < length nodes
    → spelled_at (spelled_by nodes) n ≡ IsTree tree → Spells nodes n tree
spells_from nodes n tree within is =
    slice_get-get_or (spelled_by nodes) n (IsTree (constant 0)) (omega (arith, length-spelled_by nodes)) ∙ ap Some is

pub spells_within : (nodes : List Node) (n : ℕ) (tree : Tree) → Spells nodes n tree → n < length nodes
spells_within nodes n tree spells =
    let inside = slice_get_within (spelled_by nodes) n (IsTree tree) spells in
    omega (arith, inside, length-spelled_by nodes)

pub spells_at : (nodes : List Node) (n : ℕ) (tree : Tree) → Spells nodes n tree
    → spelled_at (spelled_by nodes) n ≡ IsTree tree
spells_at nodes n tree spells = get_or_from_slice_get (spelled_by nodes) n (IsTree tree) (IsTree (constant 0)) spells

pub spells_more : (old new : List Node) (n : ℕ) (tree : Tree) → IsFront old new → Spells old n tree → Spells new n tree
spells_more old new n tree front spells =
    let within = spells_within old n tree spells in
    subst (λ ns. Spells ns n tree) (sym front.whole)
    (spells_from (old ++ front.more) n tree (omega (arith, within, length-append old front.more))
    (spelled_by-append old front.more n within ∙ spells_at old n tree spells))

valued_by : (s : List Spelled) (node : Node) (tree : Tree) → spelled_with s node ≡ IsTree tree → IsValued node
valued_by s (Const n) tree is = tt
valued_by s (CellNode width pointer offset) tree is = absurd (cc)
valued_by s (View kind size c) tree is = tt
valued_by s (Arith op left right) tree is = tt

-- a node that spells a tree may be named
pub spells_named : (nodes : List Node) (n : ℕ) (tree : Tree) → IsPool nodes → Spells nodes n tree → Names nodes n
spells_named nodes n tree pool spells =
    let within = spells_within nodes n tree spells in (
      within,
      valued_by (spelled_by nodes) (node_at nodes n) tree (sym (spelled_of nodes pool n within)
          ∙ spells_at nodes n tree spells),
    )

pub front_none : (nodes : List Node) → IsFront nodes nodes
front_none nodes = record { more = []; whole = sym (append-nil nodes) }

pub front_through : (a b c : List Node) → IsFront a b → IsFront b c → IsFront a c
front_through a b c first second = record {
  more = first.more ++ second.more;
  whole = second.whole ∙ ap (λ ns. ns ++ second.more) first.whole ∙ append_assoc a first.more second.more;
}

pub grows_none : (nodes : List Node) → IsPool nodes → GrowsBy nodes nodes []
grows_none nodes pool = record { front = front_none nodes; pool = pool; cells = refl; tracked = refl }

-- to grow twice is to grow by both
pub grows_through : (a b c : List Node) (ts us : List Tree) → GrowsBy a b ts → GrowsBy b c us → GrowsBy a c (ts ++ us)
grows_through a b c ts us first second = record {
  front = front_through a b c first.front second.front;
  pool = second.pool;
  cells = second.cells ∙ ap (λ cs. grown same_cell cs (flat_map cells_in us)) first.cells
      ∙ sym (grown-append same_cell (cells_of a) (flat_map cells_in ts) (flat_map cells_in us))
      ∙ ap (grown same_cell (cells_of a)) (sym (flat_map-append cells_in ts us));
  tracked = second.tracked ∙ ap (λ cs. grown same_tracked cs (flat_map tracked_in us)) first.tracked
      ∙ sym (grown-append same_tracked (tracked_of a) (flat_map tracked_in ts) (flat_map tracked_in
      us)) ∙ ap (grown same_tracked (tracked_of a)) (sym (flat_map-append tracked_in ts us));
}

-- trees that name the same cells and masks serve as well
pub grows_as : (a b : List Node) (ts us : List Tree) → flat_map cells_in ts ≡ flat_map cells_in us
    → flat_map tracked_in ts ≡ flat_map tracked_in us → GrowsBy a b ts → GrowsBy a b us
grows_as a b ts us cells tracked grows = record {
  front = grows.front;
  pool = grows.pool;
  cells = grows.cells ∙ ap (grown same_cell (cells_of a)) cells;
  tracked = grows.tracked ∙ ap (grown same_tracked (tracked_of a)) tracked;
}

-- a tree that is spelled already adds nothing
pub grows_again : (nodes : List Node) (n : ℕ) (tree : Tree) → IsPool nodes → Spells nodes n tree
    → GrowsBy nodes nodes (tree ∷ [])
grows_again nodes n tree pool spells =
    let all = closed nodes pool tree n (spells_within nodes n tree spells) (spells_at nodes n tree spells) in
    record {
      front = front_none nodes;
      pool = pool;
      cells = sym (ap (grown same_cell (cells_of nodes)) (append-nil (cells_in tree)) ∙ all.cells);
      tracked = sym (ap (grown same_tracked (tracked_of nodes)) (append-nil (tracked_in tree)) ∙ all.tracked);
    }

pub kept_none : (nodes : List Node) (n c v : ℕ) → IsPool nodes → IsKept nodes nodes n c v
kept_none nodes n c v pool = record {
  front = front_none nodes;
  pool = pool;
  adds = record { nodes_too = omega arith; cells_too = omega arith; views_too = omega arith };
}

-- what two calls add together
pub kept_through : (a b d : List Node) (n c v n' c' v' n'' c'' v'' : ℕ) → n + n' ≤ n''
    → c + c' ≤ c'' → v + v' ≤ v'' → IsKept a b n c v → IsKept b d n' c' v' → IsKept a d n'' c'' v''
kept_through a b d n c v n' c' v' n'' c'' v'' nodes cells views first second = record {
  front = front_through a b d first.front second.front;
  pool = second.pool;
  adds = record {
    nodes_too = omega (arith, first.adds.nodes_too, second.adds.nodes_too);
    cells_too = omega (arith, first.adds.cells_too, second.adds.cells_too);
    views_too = omega (arith, first.adds.views_too, second.adds.views_too);
  };
}

cells_length : (s : List Spelled) (node : Node) → length (cell_in (spelled_with s node)) ≡ cells_at node
cells_length s (Const n) = refl
cells_length s (CellNode width pointer offset) = refl
cells_length s (View kind size c) = refl
cells_length s (Arith op left right) = refl

views_length : (node : Node) → length (filter is_view (node ∷ [])) ≡ views_at node
views_length (Const n) = refl
views_length (CellNode width pointer offset) = refl
views_length (View kind size c) = refl
views_length (Arith op left right) = refl

-- a node is interned
pub kept_node : (old new : List Node) (node : Node) (place : ℕ) → IsPool new → GainsNode old new
    node place → Interns old new node place → IsKept old new 1 (cells_at node) (views_at node)
kept_node old new node place pool gains (inl found) =
    subst (λ ns. IsKept old ns 1 (cells_at node) (views_at node)) (sym found.same)
    (kept_none old 1 (cells_at node) (views_at node) (subst IsPool found.same pool))
kept_node old new node place pool gains (inr fresh) = record {
  front = gains.front;
  pool = pool;
  adds = record {
    nodes_too = omega (arith, ap length fresh.grown, length-append old (node ∷ []));
    cells_too =
        omega (
          arith,
          ap (λ ns. length (cells_of ns)) fresh.grown,
          ap length (cells_of-push old node),
          length-append (cells_of old) (cell_in (spelled_with (spelled_by old) node)),
          cells_length (spelled_by old) node,
        );
    views_too =
        omega (
          arith,
          ap (λ ns. length (filter is_view ns)) fresh.grown,
          ap length (filter-append is_view old (node ∷ [])),
          length-append (filter is_view old) (filter is_view (node ∷ [])),
          views_length node,
        );
  };
}

module _ (old new : List Node) (pool : IsPool old) (after : IsPool new) where
  -- a constant, and an operator over two trees
  pub plants_constant : (value place : ℕ) → GainsNode old new (Const value) place
      → Plants old new (constant value ∷ []) (constant value) place
  plants_constant value place gains = record {
    grows = record { front = gains.front; pool = after; cells = gains.cells; tracked = gains.tracked };
    spells = spells_from new place (constant value) gains.within gains.spells;
  }

  pub plants_join : (op : Op) (left right place : ℕ) (s t : Tree) → Spells old left s → Spells old
      right t → GainsNode old new (Arith op left right) place
      → Plants old new [] (join op s t) place
  plants_join op left right place s t lefts rights gains = record {
    grows = record { front = gains.front; pool = after; cells = gains.cells; tracked = gains.tracked };
    spells = spells_from new place (join op s t) gains.within (gains.spells
        ∙ ap₂ (λ x y. IsTree (join op (tree_in x) (tree_in y))) (spells_at old left s lefts)
        (spells_at old right t rights));
  }

-- a cell and its view
pub plants_view : (a b d : List Node) → IsPool a → IsPool b → IsPool d
    → (kind : Kind) (size : Size) (pointer address c place : ℕ) (p : Tree) → Spells a pointer p
    → GainsNode a b (CellNode (width_of size) pointer address) c → GainsNode b d (View kind size c)
    place → Plants a d (view kind size p address ∷ []) (view kind size p address) place
plants_view a b d pool_a pool_b pool_d kind size pointer address c place p spells first second =
    let cell : spelled_at (spelled_by b) c ≡ IsCell (cell_of size p address) = first.spells
    ∙ ap (λ x. IsCell (record { pointer = tree_in x; address = address; width = width_of size }))
    (spells_at a pointer p spells) in
    let all = closed a pool_a p pointer (spells_within a pointer p spells) (spells_at a pointer p spells) in
    let first_is : spelled_with (spelled_by a) (CellNode (width_of size) pointer address)
    ≡ IsCell (cell_of size p address) = sym first.spells ∙ cell in
    let second_is : spelled_with (spelled_by b) (View kind size c)
    ≡ IsTree (view kind size p address) = ap (λ x. IsTree (view_in kind size x)) cell in
    record {
      grows = record {
        front = front_through a b d first.front second.front;
        pool = pool_d;
        cells = second.cells ∙ first.cells ∙ ap (λ x. grown same_cell (cells_of a) (cell_in x))
            first_is ∙ sym (ap (grown same_cell (cells_of a)) (append-nil (cells_in p ++ cell_of
            size p address ∷ [])) ∙ grown-append same_cell (cells_of a) (cells_in p) (cell_of size p
            address ∷ []) ∙ ap (λ cs. grown same_cell cs (cell_of size p address ∷ [])) all.cells);
        tracked = second.tracked ∙ ap (λ x. grown same_tracked (tracked_of b) (tracked_at x))
            second_is ∙ ap (λ ts. grown same_tracked ts (tracked_by kind size (cell_of size p
            address))) first.tracked ∙ sym (ap (grown same_tracked (tracked_of a)) (append-nil
            (tracked_in p ++ tracked_by kind size (cell_of size p address))) ∙ grown-append
            same_tracked (tracked_of a) (tracked_in p) (tracked_by kind size (cell_of size p
            address)) ∙ ap (λ ts. grown same_tracked ts (tracked_by kind size (cell_of size p
            address))) all.tracked);
      };
      spells = spells_from d place (view kind size p address) second.within (second.spells ∙ second_is);
    }

cell_by : (s : List Spelled) (node : Node) (c : Cell) → spelled_with s node ≡ IsCell c → IsCellOf c.width node
cell_by s (Const n) c is = absurd (cc)
cell_by s (CellNode width pointer offset) c is = ap (λ d. d.width) (cell_inside _ _ is)
cell_by s (View kind size d) c is = absurd (cc)
cell_by s (Arith op left right) c is = absurd (cc)

-- the node of a cell is one of its width
pub gains_cell : (old new : List Node) (pointer address width place : ℕ) → IsPool new
    → GainsNode old new (CellNode width pointer address) place → IsCellOf width (node_at new place)
gains_cell old new pointer address width place pool gains =
    cell_by (spelled_by new) (node_at new place) _ (sym (spelled_of new pool place gains.within) ∙ gains.spells)

-- 0 minus a value, where there is no sum yet
pub plants_subtracted : (old mid new : List Node) (nought n : ℕ) (v : Tree) (s : Option Tree)
    → SpellsSum old None s → Plants old mid (constant 0 ∷ []) (constant 0) nought
    → Plants mid new [] (join Sub (constant 0) v) n → Plants old new [] (subtracted s v) n
plants_subtracted old mid new nought n v None none first second = record {
  grows = grows_through old mid new [] [] (grows_as old mid (constant 0 ∷ []) [] refl refl first.grows) second.grows;
  spells = second.spells;
}
plants_subtracted old mid new nought n v (Some sum) none first second = absurd none

-- a tree that a call found without a new cell
pub plants_again : (old new : List Node) (tree : Tree) (n : ℕ) → Plants old new [] tree n
    → Plants old new (tree ∷ []) tree n
plants_again old new tree n plants = record {
  grows = grows_through old new new [] (tree ∷ []) plants.grows
      (grows_again new n tree plants.grows.pool plants.spells);
  spells = plants.spells;
}

-- a tree that comes after a call without a new cell
pub plants_after : (old mid new : List Node) (trees : List Tree) (tree : Tree) (n : ℕ)
    → GrowsBy old mid [] → Plants mid new trees tree n → Plants old new trees tree n
plants_after old mid new trees tree n first second = record {
  grows = grows_through old mid new [] trees first second.grows;
  spells = second.spells;
}

tree_there : (a : Spelled) → GivesTree a → a ≡ IsTree (tree_in a)
tree_there (IsTree x) gives = refl
tree_there (IsCell c) gives = absurd gives

-- a node with a value may be named
pub gains_named : (old new : List Node) (node : Node) (place : ℕ) → IsPool new
    → GainsNode old new node place → IsValued node → Names new place
gains_named old new node place pool gains valued =
    spells_named new place _ pool
    (spells_from new place _ gains.within (gains.spells
    ∙ tree_there (spelled_with (spelled_by old) node) (with_valued (spelled_by old) node valued)))

pub names_more : (old new : List Node) (n : ℕ) → IsFront old new → Names old n → Names new n
names_more old new n front names =
    subst (λ ns. Names ns n) (sym front.whole) (
      omega (arith, names.0, length-append old front.more),
      subst IsValued (sym (node_at-append old front.more n names.0)) names.1,
    )
