-- The name of a node is that of what it spells.
use Rattle.std.proofs.Common.{◌≡◌, ℕ, ◌+◌, ◌<◌, inl, inr, Bool, true, List, [], ◌∷◌, ◌++◌, refl, sym, ap, ap₂}
use Rattle.std.proofs.Common.{subst, ◌∙◌, arith, length, get_or, length-append}
use Rattle.std.proofs.lemmas.Bool.{cases_lt}
use Rattle.std.proofs.lemmas.List.{get_or_append_left}
use Rattle.std.proofs.Math.Seq.{get_or-append_seam}
use Rattle.ra_operand.specs.declared.size.Size.{Size}
use Rattle.ra_operand.specs.declared.kind.Kind.{Kind}
use Rattle.ra_operand.specs.Views.{width_of}
use Rattle.ra_indirect.specs.declared.node.Node.{Node}
use Rattle.ra_indirect.specs.declared.node.Node.TheVariants.{Const, Cell as CellNode, View, Arith}
use Rattle.ra_indirect.specs.Trees.{Cell}
use Rattle.ra_indirect.specs.Pools.{Spelled, IsTree, IsCell, tree_in, view_in, spelled_at, spelled_with, spelled_by}
use Rattle.ra_indirect.specs.Pools.{MayFollow, node_at}
use Rattle.ra_indirect.specs.Interned.{IsPool}
use Rattle.ra_indirect.proofs.Spelling.{spelled_of}
use Rattle.ra_indirect.proofs.SpelledLemmas.{GivesTree, GivesCell, tree_at_valued, cell_at_cell, may_follow}
use Rattle.ra_memref.specs.Names.{tree_name, spelled_name, name_with}
use Rattle.ra_memref.specs.Names.{view_name_by, cell_name_by, join_name_by, NamesBelow}
use Rattle.ra_memref.specs.Naming.{is_wanted, HasWanted, AreWanted, NameCells}
use Rattle.ra_memref.proofs.Wanted.{names_earlier}

named_tree : (s : Spelled) → GivesTree s → tree_name (tree_in s) ≡ spelled_name s
named_tree (IsTree t) is = refl
named_tree (IsCell c) is = absurd is

named_view : (kind : Kind) (size : Size) (s : Spelled) → GivesCell (width_of size) s
    → tree_name (view_in kind size s) ≡ view_name_by kind size (spelled_name s)
named_view kind size (IsTree t) is = absurd is
named_view kind size (IsCell c) is =
    ap (λ w. view_name_by kind size (cell_name_by (tree_name c.pointer) c.address w)) (sym is)

-- the nodes below k that are to have names have them
pub record AreNamed (nodes : List Node) (wanted : List Bool) (names : List (List ℕ)) (k : ℕ) : Type 0 where
  pub long : length names ≡ k
  pub each : (n : ℕ) → n < k → is_wanted wanted n ≡ true
      → get_or names n [] ≡ spelled_name (spelled_at (spelled_by nodes) n)

-- only a cell spells one
cell_wanted : (spelled : List Spelled) (wanted : List Bool) (n : ℕ) (c : Cell) (node : Node) → HasWanted wanted n node
    → spelled_with spelled node ≡ IsCell c → is_wanted wanted n ≡ true
cell_wanted spelled wanted n c (Const m) has is = absurd (cc)
cell_wanted spelled wanted n c (CellNode width pointer offset) has is = has.0
cell_wanted spelled wanted n c (View kind size v) has is = absurd (cc)
cell_wanted spelled wanted n c (Arith op left right) has is = absurd (cc)

module _ (nodes : List Node) (pool : IsPool nodes) where
  abbrev spelled : List Spelled
  spelled = spelled_by nodes

  module _ (wanted : List Bool) (are : AreWanted nodes wanted) (names : List (List ℕ)) (k : ℕ)
      (named : AreNamed nodes wanted names k) where
    module _ (within : k < length nodes) where
      by_node : (node : Node) → NamesBelow k node → MayFollow nodes node → HasWanted wanted k node
          → is_wanted wanted k ≡ true → spelled_name (spelled_with spelled node) ≡ name_with names node
      by_node (Const n) under may has is = refl
      by_node (CellNode width pointer offset) under may has is =
          ap (λ name. cell_name_by name offset width)
          (named_tree (spelled_at spelled pointer) (tree_at_valued nodes pool pointer may.0 may.1)
          ∙ sym (named.each pointer under has.1))
      by_node (View kind size c) under may has is =
          named_view kind size (spelled_at spelled c) (cell_at_cell nodes pool (width_of size) c may.0 may.1)
          ∙ ap (view_name_by kind size) (sym (named.each c under (has is)))
      by_node (Arith op left right) under may has is =
          ap₂ (join_name_by op)
          (named_tree (spelled_at spelled left) (tree_at_valued nodes pool left may.0 may.1)
          ∙ sym (named.each left under.0 (has is).0))
          (named_tree (spelled_at spelled right) (tree_at_valued nodes pool right may.2 may.3)
          ∙ sym (named.each right under.1 (has is).1))

      this_name : (name : List ℕ) → (is_wanted wanted k ≡ true → name ≡ name_with names (node_at nodes k))
          → is_wanted wanted k ≡ true → name ≡ spelled_name (spelled_at spelled k)
      this_name name gives is =
          gives is
          ∙ sym (ap spelled_name (spelled_of nodes pool k within)
          ∙ by_node (node_at nodes k) (names_earlier nodes pool k within) (may_follow nodes pool k within)
          (are.each k within) is)

      -- a node more has its name
      pub named_more : (name : List ℕ) → (is_wanted wanted k ≡ true → name ≡ name_with names (node_at nodes k))
          → AreNamed nodes wanted (names ++ name ∷ []) (k + 1)
      named_more name gives = record {
        long = omega (arith, length-append names (name ∷ []), named.long);
        each = λ n under is. elim (cases_lt n k) [
          | inl early ↦ get_or_append_left names (name ∷ []) [] n (omega (arith, early, named.long))
              ∙ named.each n early is
          | inr from ↦
              let same : n ≡ k = omega (arith, under, from) in
              let last : n ≡ length names = omega (arith, same, named.long) in
              ap (λ i. get_or (names ++ name ∷ []) i []) last ∙ get_or-append_seam names name [] []
              ∙ this_name name gives (subst (λ i. is_wanted wanted i ≡ true) same is)
              ∙ ap (λ i. spelled_name (spelled_at spelled i)) (sym same)
        ];
      }

    -- with all of them each cell has its name
    pub named_all : k ≡ length nodes → NameCells nodes names
    named_all end = record {
      as_many = named.long ∙ end;
      each = λ n c under is.
          named.each n (omega (arith, under, end))
          (cell_wanted spelled wanted n c (node_at nodes n) (are.each n under)
          (sym (spelled_of nodes pool n under) ∙ is))
          ∙ ap spelled_name is;
    }
