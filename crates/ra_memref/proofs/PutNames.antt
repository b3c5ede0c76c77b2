-- Names that are put at the slots of cells and of tracked masks, node by node.
use Rattle.std.proofs.Common.{◌≡◌, ℕ, suc, ◌+◌, ◌<◌, ◌⊎◌, inl, inr, None, Some, List, [], length, map, get_or, set}
use Rattle.std.proofs.Common.{refl, ap, sym, subst, ◌∙◌, arith}
use Rattle.std.proofs.lemmas.Bool.{cases_eq}
use Rattle.std.proofs.lemmas.List.{same_lists, get_or-map, get_or-set_same, get_or-set_other}
use Rattle.ra_operand.specs.declared.kind.Kind.TheVariants.{Mem, Delta, Prior, Bcd, Inverted}
use Rattle.ra_operand.specs.Views.{width_of, mask_of}
use Rattle.ra_indirect.specs.declared.node.Node.{Node}
use Rattle.ra_indirect.specs.declared.node.Node.TheVariants.{Const, Cell as CellNode, View, Arith}
use Rattle.ra_indirect.specs.Pools.{Spelled, spelled_at, spelled_with, spelled_by, tracked_at, node_at, MayFollow}
use Rattle.ra_indirect.specs.Pools.{IsCellOf, cells_of, tracked_of}
use Rattle.ra_indirect.specs.Interned.{Interns, IsPool}
use Rattle.ra_indirect.proofs.Spelling.{spelled_of}
use Rattle.ra_indirect.proofs.SpelledLemmas.{may_follow, cell_at_cell}
use Rattle.ra_memref.specs.declared.layout.TrackedMask.{TrackedMask}
use Rattle.ra_memref.specs.Table.{no_cell}
use Rattle.ra_memref.specs.Layout.{tracked_before, HasSlot, IsLaid, mask_in, tracked_of_mask, IsOfCell}
use Rattle.ra_memref.specs.Names.{cell_name, tracked_name, tracked_name_by}
use Rattle.ra_memref.specs.Naming.{NameCells}
use Rattle.ra_memref.proofs.CellsAlong.{no_cell_with}
use Rattle.ra_memref.proofs.LaidLemmas.{none_tracked, is_cell_there}
use Rattle.ra_memref.proofs.Passed.{cell_count, tracked_count}
use Rattle.ra_memref.proofs.PassLemmas.{IsPriorSlot, prior_slot, cell_slot, cell_node_slot, counts_same}
use Rattle.ra_memref.proofs.PassLemmas.{tracked_counts_same}

-- the names below j are put
abbrev pub ArePut : (wanted : List (List ℕ)) → ℕ → (put : List (List ℕ)) → Type 0
ArePut wanted j put = (i : ℕ) (d : List ℕ) → i < j → get_or put i d ≡ get_or wanted i d

-- with all of them put, the names are there
pub put_all : (wanted put : List (List ℕ)) (j : ℕ) → length put ≡ length wanted → j ≡ length wanted
    → ArePut wanted j put → put ≡ wanted
put_all wanted put j long all are = same_lists put wanted long (λ i d below. are i d (omega (arith, below, long, all)))

-- a name is put once more, or where it is the next
put_more : (wanted put : List (List ℕ)) (slot j j' : ℕ) (name : List ℕ) → slot < length put
    → ((d : List ℕ) → name ≡ get_or wanted slot d) → ((slot < j) × (j' ≡ j)) ⊎ ((slot ≡ j) × (j' ≡ suc j))
    → ArePut wanted j put → ArePut wanted j' (set put slot name)
put_more wanted put slot j j' name within is once are = λ i d below. elim (cases_eq i slot) [
  | inl same ↦ ap (λ n. get_or (set put slot name) n d) same ∙ get_or-set_same put slot name d within ∙ is d
      ∙ ap (λ n. get_or wanted n d) (sym same)
  | inr other ↦ get_or-set_other put slot i name d other ∙ are i d (early i below other once)
]
  where
    early : (i : ℕ) → i < j' → (i ≡ slot → ⊥) → ((slot < j) × (j' ≡ j)) ⊎ ((slot ≡ j) × (j' ≡ suc j)) → i < j
    early i below other (inl again) = omega (arith, below, again.1)
    early i below other (inr next) = omega (arith, below, other, next.0, next.1)

-- the names of the cells of a pool, and of its tracked masks
abbrev pub cell_names : List Node → List (List ℕ)
cell_names nodes = map cell_name (cells_of nodes)

abbrev pub mask_names : List Node → List (List ℕ)
mask_names nodes = map tracked_name (tracked_of nodes)

module _ (nodes : List Node) (pool : IsPool nodes) (slots : List ℕ) (laid : IsLaid nodes slots) (names : List (List ℕ))
    (named : NameCells nodes names) (k : ℕ) (within : k < length nodes) where
  abbrev spelled : List Spelled
  spelled = spelled_by nodes

  abbrev slot : ℕ
  slot = get_or slots k 0

  next : k + 1 ≡ suc k
  next = omega arith

  spells : (node : Node) → node_at nodes k ≡ node → spelled_at spelled k ≡ spelled_with spelled node
  spells node same = spelled_of nodes pool k within ∙ ap (spelled_with spelled) same

  module _ (pointer offset width : ℕ) (same : node_at nodes k ≡ CellNode width pointer offset) where
    pub cell_within : slot < length (cells_of nodes)
    cell_within = (cell_slot nodes pool slots laid width k within (subst (IsCellOf width) (sym same) refl)).within

    -- a cell has the name of its node
    pub cell_put : (cells : List (List ℕ)) → length cells ≡ length (cells_of nodes)
        → ArePut (cell_names nodes) (cell_count nodes k) cells
        → ArePut (cell_names nodes) (cell_count nodes (k + 1)) (set cells slot (get_or names k []))
    cell_put cells long are =
        let facts = cell_node_slot nodes pool slots laid k within pointer offset width same in
        put_more (cell_names nodes) cells slot (cell_count nodes k) (cell_count nodes (k + 1)) (get_or names k [])
        (omega (arith, cell_within, long))
        (λ d. named.each k _ within (spells _ same) ∙ ap cell_name (sym facts.2)
        ∙ sym (get_or-map cell_name (cells_of nodes) slot no_cell d cell_within))
        (inr (facts.0, ap (cell_count nodes) next ∙ facts.1)) are

  -- another node has none
  pub no_cell_put : (node : Node) → node_at nodes k ≡ node
      → ((pointer offset width : ℕ) → node ≡ CellNode width pointer offset → ⊥)
      → cell_count nodes (k + 1) ≡ cell_count nodes k
  no_cell_put node same other =
      ap (cell_count nodes) next
      ∙ counts_same nodes pool slots laid k within _ (spells node same) (no_cell_with spelled node other)

  -- the mask is one of a cell, and has the node's slot
  abbrev Tracks : TrackedMask → Type 0
  Tracks m =
      IsOfCell nodes m
      × Interns (tracked_before spelled k) (tracked_before spelled (suc k)) (tracked_of_mask nodes m) slot

  -- so it is of the mask that a node tracks
  tracks : (node : Node) (m : TrackedMask) → mask_in node ≡ Some m → MayFollow nodes node → HasSlot spelled k node slot
      → Tracks m
  tracks (View Prior size c) m is may has =
      let same : record { cell = c; mask = mask_of size } ≡ m = cc in
      let cell = is_cell_there (width_of size) _ (cell_at_cell nodes pool (width_of size) c may.0 may.1) in
      subst Tracks same ((may.0, cell), has)
  tracks (Const n) m is may has = absurd cc
  tracks (CellNode width pointer offset) m is may has = absurd cc
  tracks (View Mem size c) m is may has = absurd cc
  tracks (View Delta size c) m is may has = absurd cc
  tracks (View Bcd size c) m is may has = absurd cc
  tracks (View Inverted size c) m is may has = absurd cc
  tracks (Arith op left right) m is may has = absurd cc

  module _ (m : TrackedMask) (is : mask_in (node_at nodes k) ≡ Some m) where
    tracked_here : Tracks m
    tracked_here = tracks (node_at nodes k) m is (may_follow nodes pool k within) (laid.each k within)

    there : IsPriorSlot nodes pool slots laid (tracked_of_mask nodes m) k slot
    there = prior_slot nodes pool slots laid (tracked_of_mask nodes m) k slot within tracked_here.1

    pub mask_within : slot < length (tracked_of nodes)
    mask_within = there.within

    -- a mask has the name by that of its cell
    pub mask_put : (priors : List (List ℕ)) → length priors ≡ length (tracked_of nodes)
        → ArePut (mask_names nodes) (tracked_count nodes k) priors
        → ArePut (mask_names nodes) (tracked_count nodes (k + 1))
        (set priors slot (tracked_name_by (get_or names m.cell []) m.mask))
    mask_put priors long are =
        rw next
        (put_more (mask_names nodes) priors slot (tracked_count nodes k) (tracked_count nodes (suc k))
        (tracked_name_by (get_or names m.cell []) m.mask) (omega (arith, there.within, long))
        (λ d. ap (λ name. tracked_name_by name m.mask) (named.each m.cell _ tracked_here.0.0 tracked_here.0.1)
        ∙ ap tracked_name (sym there.stands) ∙ sym (get_or-map tracked_name (tracked_of nodes) slot _ d there.within))
        there.once are)

  none_tracked_by : (node : Node) → mask_in node ≡ None → tracked_at (spelled_with spelled node) ≡ []
  none_tracked_by (Const n) none = refl
  none_tracked_by (CellNode width pointer offset) none = refl
  none_tracked_by (View Prior size c) none = absurd cc
  none_tracked_by (View Mem size c) none = none_tracked Mem size (spelled_at spelled c) refl
  none_tracked_by (View Delta size c) none = none_tracked Delta size (spelled_at spelled c) refl
  none_tracked_by (View Bcd size c) none = none_tracked Bcd size (spelled_at spelled c) refl
  none_tracked_by (View Inverted size c) none = none_tracked Inverted size (spelled_at spelled c) refl
  none_tracked_by (Arith op left right) none = refl

  -- a node that tracks none has none
  pub no_mask_put : mask_in (node_at nodes k) ≡ None → tracked_count nodes (k + 1) ≡ tracked_count nodes k
  no_mask_put none =
      ap (tracked_count nodes) next
      ∙ tracked_counts_same nodes pool slots laid k within _ (spells _ refl) (none_tracked_by (node_at nodes k) none)
