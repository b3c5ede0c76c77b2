-- The agenda of a table: the lists of what names each node, the nodes of the cells, and what is due before a pass.
use Rattle.std.proofs.Common.{◌≡◌, ℕ, suc, ◌+◌, ◌<◌, inl, inr, Bool, true, false, List, [], ◌∷◌, ◌++◌, length, map}
use Rattle.std.proofs.Common.{get_or, set, refl, ap, sym, subst, ◌∙◌, arith, length-append}
use Rattle.std.proofs.lemmas.List.{get_or-set_same, get_or-set_other, length-map, length-set, get_or_append_left}
use Rattle.std.proofs.Math.Seq.{get_or-append_seam}
use Rattle.std.proofs.lemmas.Bool.{cases_eq, cases_lt, false≢true}
use Rattle.ra_links.specs.declared.entry.Entry.{Entry}
use Rattle.ra_links.specs.FlatRows.{AreOnRows, IsListed, entry_at, numbers_on, rows_by}
use Rattle.ra_links.proofs.Cuts.{length-rows_by, on_row, row-rows_by}
use Rattle.ra_links.proofs.Listed.{each_both, each_one, listed_here, listed_new, listed_old, number_of_one}
use Rattle.ra_indirect.proofs.PoolLemmas.{below_or_last}
use Rattle.ra_indirect.specs.declared.node.Node.{Node}
use Rattle.ra_indirect.specs.declared.node.Node.TheVariants.{Const, Cell as CellNode, View, Arith}
use Rattle.ra_indirect.specs.Trees.{Cell}
use Rattle.ra_indirect.specs.Pools.{MayFollow, node_at, spelled_by, spelled_with, cells_of}
use Rattle.ra_indirect.specs.Interned.{IsPool}
use Rattle.ra_indirect.proofs.Spelling.{spelled_of, length-spelled_by}
use Rattle.ra_indirect.proofs.SpelledLemmas.{NamesBelow, may_follow, names_below}
use Rattle.ra_memref.specs.Numbers.{NumbersSeen}
use Rattle.ra_memref.specs.Layout.{HasSlot, IsLaid, cells_before}
use Rattle.ra_memref.specs.Pass.{IsSizedFor, earlier_at}
use Rattle.ra_memref.specs.Flags.{NoneSet}
use Rattle.ra_memref.specs.Due.{earlier_by, kept_by, IsQuiet, IsUnmarked, AreQuiet, AreIdle, Names, AreDependents}
use Rattle.ra_memref.specs.Due.{entries_of}
use Rattle.ra_memref.specs.Due.{HasCellNode, AreCellNodes, IsGathered}
use Rattle.ra_memref.proofs.CellsAlong.{cell_with, along_cell, along_same}
use Rattle.ra_memref.proofs.LaidLemmas.{cells_one, cells_grow, cells_all}
use Rattle.ra_memref.proofs.PassLemmas.{node_within}

-- what a node of a pool names is a node of it
pub named_below : (nodes : List Node) (pool : IsPool nodes) (k : ℕ) → k < length nodes → (node : Node)
    → node ≡ node_at nodes k → (i : ℕ) → Names node i → i < length nodes
named_below nodes pool k within node same i named =
    by_node node (names_below (length nodes) nodes node (omega arith)
    (subst (λ x. MayFollow nodes x) (sym same) (may_follow nodes pool k within))) named
  where
    by_node : (node : Node) → NamesBelow (length nodes) node → Names node i → i < length nodes
    by_node (Const n) below named = absurd named
    by_node (CellNode width pointer offset) below named = omega (arith, below, named)
    by_node (View kind size c) below named = omega (arith, below, named)
    by_node (Arith op left right) below (inl named) = omega (arith, below.0, named)
    by_node (Arith op left right) below (inr named) = omega (arith, below.1, named)

-- each node of the first so many has its entries, and each entry is of nodes
pub record AreNaming (nodes : List Node) (count : ℕ) (entries : List Entry) : Type 0 where
  pub rows : AreOnRows (length nodes) entries
  pub numbers : (k : ℕ) → k < length entries → (entry_at entries k).number < length nodes
  pub each : (n i : ℕ) → n < count → Names (node_at nodes n) i → IsListed n (numbers_on i entries)

pub naming_none : (nodes : List Node) → AreNaming nodes 0 []
naming_none nodes = record {
  rows = λ k below. absurd (omega (arith, below));
  numbers = λ k below. absurd (omega (arith, below));
  each = λ n i below. absurd (omega (arith, below));
}

-- what holds of the entry of a node on each row that it names holds of each of its entries
each_of : (P : Entry → Type 0) (n : ℕ) (node : Node) → ((i : ℕ) → Names node i → P (record { row = i; number = n }))
    → (k : ℕ) → k < length (entries_of n node) → P (entry_at (entries_of n node) k)
each_of P n (Const c) one = λ k below. absurd (omega (arith, below))
each_of P n (CellNode width pointer offset) one = each_one P (record { row = pointer; number = n }) (one pointer refl)
each_of P n (View kind size c) one = each_one P (record { row = c; number = n }) (one c refl)
each_of P n (Arith op left right) one =
    each_both P (record { row = left; number = n } ∷ []) (record { row = right; number = n } ∷ [])
    (each_one P (record { row = left; number = n }) (one left (inl refl)))
    (each_one P (record { row = right; number = n }) (one right (inr refl)))

-- a node stands on the row of each that it names
named_here : (n : ℕ) (node : Node) (i : ℕ) → Names node i → IsListed n (numbers_on i (entries_of n node))
named_here n (Const c) i named = absurd named
named_here n (CellNode width pointer offset) i named = listed_here (record { row = pointer; number = n }) i named
named_here n (View kind size c) i named = listed_here (record { row = c; number = n }) i named
named_here n (Arith op left right) i (inl named) =
    listed_old (record { row = left; number = n } ∷ []) (record { row = right; number = n } ∷ []) n i
    (listed_here (record { row = left; number = n }) i named)
named_here n (Arith op left right) i (inr named) =
    listed_new (record { row = left; number = n } ∷ []) (record { row = right; number = n } ∷ []) n i
    (listed_here (record { row = right; number = n }) i named)

module _ (nodes : List Node) (pool : IsPool nodes) where
  pub naming_more : (entries : List Entry) (n : ℕ) → n < length nodes → AreNaming nodes n entries
      → AreNaming nodes (n + 1) (entries ++ entries_of n (node_at nodes n))
  naming_more entries n below naming =
      let more = entries_of n (node_at nodes n) in
      record {
        rows = each_both (λ e. e.row < length nodes) entries more naming.rows
            (each_of (λ e. e.row < length nodes) n (node_at nodes n)
            (λ i named. named_below nodes pool n below (node_at nodes n) refl i named));
        numbers = each_both (λ e. e.number < length nodes) entries more naming.numbers
            (each_of (λ e. e.number < length nodes) n (node_at nodes n) (λ i named. below));
        each = λ j i less named. elim (below_or_last j n less) [
          | inl before ↦ listed_old entries more j i (naming.each j i before named)
          | inr last ↦
              let here = named_here n (node_at nodes n) i (subst (λ m. Names (node_at nodes m) i) last named) in
              subst (λ m. IsListed m (numbers_on i (entries ++ more))) (sym last) (listed_new entries more n i here)
        ];
      }

  pub dependents_by : (entries : List Entry) → AreNaming nodes (length nodes) entries
      → AreDependents nodes (rows_by (length nodes) entries)
  dependents_by entries naming = record {
    rows_too = length-rows_by (length nodes) entries;
    each = λ n i below named. subst (IsListed n) (sym (row-rows_by (length nodes) entries i
        (named_below nodes pool n below (node_at nodes n) refl i named))) (naming.each n i below named);
    within = λ n i is. number_of_one (λ m. m < length nodes) entries naming.numbers n i
        (on_row (length nodes) entries n i is);
  }

-- the nodes of no cell
pub noted_none : (nodes : List Node) → AreCellNodes nodes 0 []
noted_none nodes = record {
  long = refl;
  within = λ k below. absurd (omega (arith, below));
  each = λ n below. absurd (omega (arith, below));
}

module _ (nodes : List Node) (pool : IsPool nodes) (cell_nodes : List ℕ) (k : ℕ) (within : k < length nodes)
    (are : AreCellNodes nodes k cell_nodes) where
  -- how many cells one node more spells
  count_cell : (pointer offset width : ℕ) → node_at nodes k ≡ CellNode width pointer offset
      → length (cells_before (spelled_by nodes) (k + 1)) ≡ length (cells_before (spelled_by nodes) k) + 1
  count_cell pointer offset width same =
      let same_cells = along_cell nodes pool ℕ (λ c. c.width) (map (λ c. c.width)
      (cells_before (spelled_by nodes) k)) k within refl pointer offset width same in
      omega (
        arith,
        ap length same_cells,
        length-append
            (map (λ (c : Cell). c.width) (cells_before (spelled_by nodes) k)) (width ∷ []),
        length-map (cells_before
            (spelled_by nodes) k) (λ c. c.width),
        length-map (cells_before (spelled_by nodes) (k + 1)) (λ c. c.width),
      )

  count_same : ((pointer offset width : ℕ) → node_at nodes k ≡ CellNode width pointer offset → ⊥)
      → length (cells_before (spelled_by nodes) (k + 1)) ≡ length (cells_before (spelled_by nodes) k)
  count_same other =
      let same_cells = along_same nodes pool ℕ (λ c. c.width) (map (λ c. c.width)
      (cells_before (spelled_by nodes) k)) k within refl (node_at nodes k) refl other in
      omega (
        arith,
        ap length same_cells,
        length-map (cells_before (spelled_by nodes) k) (λ c. c.width),
        length-map
            (cells_before (spelled_by nodes) (k + 1)) (λ c. c.width),
      )

  slot_below : (n : ℕ) → n < k → (pointer offset width : ℕ) → node_at nodes n ≡ CellNode width pointer offset
      → length (cells_before (spelled_by nodes) n) < length cell_nodes
  slot_below n less pointer offset width same =
      let inside : n < length (spelled_by nodes) = omega (arith, less, within, length-spelled_by nodes) in
      let is = spelled_of nodes pool n (omega (arith, less, within)) ∙ ap (spelled_with (spelled_by nodes)) same in
      let one = cells_one (spelled_by nodes) n (cell_with nodes pointer offset width) inside is in
      omega (
        arith,
        are.long,
        ap length one,
        length-append (cells_before (spelled_by nodes) n)
            (cell_with nodes pointer offset width ∷ []),
        cells_grow (spelled_by nodes) (suc n) k (omega (arith, less)),
      )

  still_there : (more : List ℕ) (n : ℕ) → n < k → (node : Node) → node_at nodes n ≡ node
      → HasCellNode node cell_nodes (length (cells_before (spelled_by nodes) n)) n
      → HasCellNode node (cell_nodes ++ more) (length (cells_before (spelled_by nodes) n)) n
  still_there more n less (Const m) same has = tt
  still_there more n less (CellNode width pointer offset) same has =
      get_or_append_left cell_nodes more 0 (length (cells_before (spelled_by nodes) n))
      (slot_below n less pointer offset width same) ∙ has
  still_there more n less (View kind size c) same has = tt
  still_there more n less (Arith op left right) same has = tt

  last_there : (node : Node) → HasCellNode node (cell_nodes ++ k ∷ []) (length (cells_before (spelled_by nodes) k)) k
  last_there (Const m) = tt
  last_there (CellNode width pointer offset) =
      ap (λ i. get_or (cell_nodes ++ k ∷ []) i 0) (sym are.long) ∙ get_or-append_seam cell_nodes k [] 0
  last_there (View kind size c) = tt
  last_there (Arith op left right) = tt

  none_there : (node : Node) → ((pointer offset width : ℕ) → node ≡ CellNode width pointer offset → ⊥)
      → HasCellNode node cell_nodes (length (cells_before (spelled_by nodes) k)) k
  none_there (Const m) other = tt
  none_there (CellNode width pointer offset) other = absurd (other pointer offset width refl)
  none_there (View kind size c) other = tt
  none_there (Arith op left right) other = tt

  -- a cell's node comes last
  pub noted_cell : (pointer offset width : ℕ) → node_at nodes k ≡ CellNode width pointer offset
      → AreCellNodes nodes (k + 1) (cell_nodes ++ k ∷ [])
  noted_cell pointer offset width same = record {
    long = omega (arith, length-append cell_nodes (k ∷ []), are.long, count_cell pointer offset width same);
    within = λ i below. elim (cases_lt i (length cell_nodes)) [
      | inl left ↦ omega (arith, get_or_append_left cell_nodes (k ∷ []) 0 i left, are.within i left)
      | inr last ↦
          let e : i ≡ length cell_nodes = omega (arith, below, last, length-append cell_nodes (k ∷ [])) in
          omega (arith, ap (λ n. get_or (cell_nodes ++ k ∷ []) n 0) e, get_or-append_seam cell_nodes k [] 0)
    ];
    each = λ n below. elim (cases_eq n k) [
      | inl here ↦ subst (λ i. HasCellNode (node_at nodes i) (cell_nodes ++ k ∷ [])
          (length (cells_before (spelled_by nodes) i)) i) (sym here) (last_there (node_at nodes k))
      | inr apart ↦
          let less : n < k = omega (arith, below, apart) in
          still_there (k ∷ []) n less (node_at nodes n) refl (are.each n less)
    ];
  }

  -- another node adds none
  pub noted_same : (node : Node) → node_at nodes k ≡ node
      → ((pointer offset width : ℕ) → node ≡ CellNode width pointer offset → ⊥) → AreCellNodes nodes (k + 1) cell_nodes
  noted_same node same other =
      let none : (pointer offset width : ℕ) → node_at nodes k ≡ CellNode width pointer offset
      → ⊥ = λ pointer offset width is. other pointer offset width (sym same ∙ is) in
      record {
        long = are.long ∙ sym (count_same none);
        within = λ i below. omega (arith, are.within i below);
        each = λ n below. elim (cases_eq n k) [
          | inl here ↦ subst (λ i. HasCellNode (node_at nodes i) cell_nodes
              (length (cells_before (spelled_by nodes) i)) i) (sym here) (none_there (node_at nodes k) none)
          | inr apart ↦ are.each n (omega (arith, below, apart))
        ];
      }

-- some of the marked cells are gathered
pub record IsGathering (cell_nodes : List ℕ) (marked old new : List Bool) (count : ℕ) : Type 0 where
  pub long : length new ≡ length old
  pub kept : (n : ℕ) → get_or new n true ≡ false → get_or old n true ≡ false
  pub marked_too : (cell : ℕ) → cell < count → get_or marked cell true ≡ true
      → get_or new (get_or cell_nodes cell 0) true ≡ true

pub gathering_none : (cell_nodes : List ℕ) (marked old : List Bool) → IsGathering cell_nodes marked old old 0
gathering_none cell_nodes marked old = record {
  long = refl;
  kept = λ n still. still;
  marked_too = λ cell below. absurd (omega (arith, below));
}

module _ (cell_nodes : List ℕ) (marked old now : List Bool) (count : ℕ)
    (gathering : IsGathering cell_nodes marked old now count) where
  -- none of the next cells is marked
  pub gathering_past : (to : ℕ) → NoneSet marked count to → IsGathering cell_nodes marked old now to
  gathering_past to none = record {
    long = gathering.long;
    kept = gathering.kept;
    marked_too = λ cell below is. elim (cases_lt cell count) [
      | inl less ↦ gathering.marked_too cell less is
      | inr more ↦ absurd (false≢true (sym (none cell more below) ∙ is))
    ];
  }

  -- a cell that is marked
  module _ (node : ℕ) (is : node ≡ get_or cell_nodes count 0) (inside : node < length now) where
    due_still : (n : ℕ) → get_or now n true ≡ true → get_or (set now node true) n true ≡ true
    due_still n before = elim (cases_eq n node) [
      | inl here ↦ ap (λ i. get_or (set now node true) i true) here ∙ get_or-set_same now node true true inside
      | inr apart ↦ get_or-set_other now node n true true apart ∙ before
    ]

    kept_still : (n : ℕ) → get_or (set now node true) n true ≡ false → get_or now n true ≡ false
    kept_still n still = elim (cases_eq n node) [
      | inl here ↦ absurd (false≢true
          (sym still ∙ ap (λ i. get_or (set now node true) i true) here ∙ get_or-set_same now node true true inside))
      | inr apart ↦ sym (get_or-set_other now node n true true apart) ∙ still
    ]

    pub gathering_more : IsGathering cell_nodes marked old (set now node true) (count + 1)
    gathering_more = record {
      long = length-set now node true ∙ gathering.long;
      kept = λ n still. gathering.kept n (kept_still n still);
      marked_too = λ cell below marks. elim (cases_eq cell count) [
        | inl here ↦
            ap (λ c. get_or (set now node true) (get_or cell_nodes c 0) true) here
            ∙ ap (λ i. get_or (set now node true) i true) (sym is) ∙ get_or-set_same now node true true inside
        | inr apart ↦ due_still (get_or cell_nodes cell 0) (gathering.marked_too cell
            (omega (arith, below, apart)) marks)
      ];
    }

pub gathered : (cell_nodes : List ℕ) (marked old new : List Bool)
    → IsGathering cell_nodes marked old new (length cell_nodes) → IsGathered cell_nodes marked old new
gathered cell_nodes marked old new all = record { long = all.long; kept = all.kept; marked_too = all.marked_too }

-- each cell has its node
pub count_all : {nodes : List Node} {cell_nodes : List ℕ} → AreCellNodes nodes (length nodes) cell_nodes
    → length cell_nodes ≡ length (cells_of nodes)
count_all {nodes} cells = cells.long ∙ ap length (cells_all nodes)

module _ (nodes : List Node) (pool : IsPool nodes) (slots : List ℕ) (laid : IsLaid nodes slots)
    (numbers : NumbersSeen) (sized : IsSizedFor nodes numbers) (cell_nodes : List ℕ) (cells : AreCellNodes nodes
    (length nodes) cell_nodes) (due due' : List Bool) where
  slot_inside : (j : ℕ) → j < length nodes → (pointer offset width : ℕ)
      → node_at nodes j ≡ CellNode width pointer offset → get_or slots j 0 < length cell_nodes
  slot_inside j within pointer offset width same =
      omega (
        arith,
        (node_within nodes pool slots laid j within numbers sized (CellNode width pointer offset)
            (sym same)).1,
        sized.cells,
        count_all cells,
      )

  unmarked_at : (j : ℕ) → IsGathered cell_nodes numbers.watches.marked due due' → get_or due' j true ≡ false
      → get_or slots j 0 < length cell_nodes → get_or cell_nodes (get_or slots j 0) 0 ≡ j → (mark : Bool)
      → get_or numbers.watches.marked (get_or slots j 0) true ≡ mark
      → get_or numbers.watches.marked (get_or slots j 0) true ≡ false
  unmarked_at j gathered still below node false is = is
  unmarked_at j gathered still below node true is =
      absurd (false≢true (sym still ∙ ap (λ i. get_or due' i true) (sym node) ∙ gathered.marked_too
      (get_or slots j 0) below is))

  unmarked_by : IsGathered cell_nodes numbers.watches.marked due due' → (j : ℕ) → j < length nodes
      → get_or due' j true ≡ false → (node : Node) → node_at nodes j ≡ node
      → HasCellNode node cell_nodes (length (cells_before (spelled_by nodes) j)) j
      → HasSlot (spelled_by nodes) j node (get_or slots j 0) → IsUnmarked node numbers (get_or slots j 0)
  unmarked_by gathered j within still (Const n) same has slot = tt
  unmarked_by gathered j within still (View kind size c) same has slot = tt
  unmarked_by gathered j within still (Arith op left right) same has slot = tt
  unmarked_by gathered j within still (CellNode width pointer offset) same has slot =
      unmarked_at j gathered still (slot_inside j within pointer offset width same) (ap
      (λ i. get_or cell_nodes i 0) slot ∙ has) (get_or numbers.watches.marked (get_or slots j 0) true) refl

  -- once the marked cells are gathered, each node that is not due is idle
  pub gathered_idle : AreQuiet nodes due numbers slots → IsGathered cell_nodes numbers.watches.marked due due'
      → AreIdle nodes due' numbers slots
  gathered_idle quiet gathered = record {
    quiet = λ n within still. quiet n within (gathered.kept n still);
    unmarked = λ n within still. unmarked_by gathered n within still (node_at nodes n) refl
        (cells.each n within) (laid.each n within);
  }

  settled_by : ((cell : ℕ) → cell < length cell_nodes → get_or due' (get_or cell_nodes cell 0) true ≡ false
      → earlier_at numbers cell ≡ get_or numbers.cells cell 0) → (j : ℕ) → j < length nodes
      → get_or due' j true ≡ false → (node : Node) → node_at nodes j ≡ node
      → HasCellNode node cell_nodes (length (cells_before (spelled_by nodes) j)) j
      → HasSlot (spelled_by nodes) j node (get_or slots j 0)
      → earlier_by node numbers slots j ≡ kept_by node numbers slots j
  settled_by noted j within still (Const n) same has slot = refl
  settled_by noted j within still (View kind size c) same has slot = refl
  settled_by noted j within still (Arith op left right) same has slot = refl
  settled_by noted j within still (CellNode width pointer offset) same has slot =
      let node = ap (λ i. get_or cell_nodes i 0) slot ∙ has in
      noted (get_or slots j 0) (slot_inside j within pointer offset width same)
      (ap (λ i. get_or due' i true) node ∙ still)

  -- once the cells are due that have another number than at the frame before, each node that is not due is idle
  pub settled_idle : ((n : ℕ) → n < length nodes → get_or due n true ≡ false
      → earlier_by (node_at nodes n) numbers slots n ≡ kept_by (node_at nodes n) numbers slots n
      → IsQuiet (node_at nodes n) numbers slots n × IsUnmarked (node_at nodes n) numbers (get_or slots n 0))
      → ((n : ℕ) → get_or due' n true ≡ false → get_or due n true ≡ false)
      → ((cell : ℕ) → cell < length cell_nodes → get_or due' (get_or cell_nodes cell 0) true ≡ false
      → earlier_at numbers cell ≡ get_or numbers.cells cell 0) → AreIdle nodes due' numbers slots
  settled_idle settled kept noted = record {
    quiet = λ n within still. (one n within still).0;
    unmarked = λ n within still. (one n within still).1;
  }
    where
      one : (n : ℕ) → n < length nodes → get_or due' n true ≡ false
          → IsQuiet (node_at nodes n) numbers slots n × IsUnmarked (node_at nodes n) numbers (get_or slots n 0)
      one n within still = settled n within (kept n still) (settled_by noted n within still (node_at nodes n) refl
          (cells.each n within) (laid.each n within))

-- the first so many cells that have another number than at the frame before are due too
pub record AreCellsNoted (cell_nodes : List ℕ) (numbers : NumbersSeen) (old new : List Bool) (count : ℕ) : Type 0 where
  pub long : length new ≡ length old
  pub kept : (n : ℕ) → get_or new n true ≡ false → get_or old n true ≡ false
  pub noted : (cell : ℕ) → cell < count → get_or new (get_or cell_nodes cell 0) true ≡ false
      → earlier_at numbers cell ≡ get_or numbers.cells cell 0
