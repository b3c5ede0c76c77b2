-- A quiet node: taking it changes nothing, and taking another one leaves it quiet where it sees no other number.
use Rattle.std.proofs.Common.{◌≡◌, ℕ, suc, ◌<◌, inl, inr, true, false, List, length, get_or, set, refl, ap, ap₂, sym}
use Rattle.std.proofs.Common.{subst, ◌∙◌, arith}
use Rattle.std.proofs.lemmas.List.{get_or-set_same, get_or-set_other, set-get_or, get_or_default}
use Rattle.std.proofs.lemmas.Bool.{cases_eq, cases_lt, eq-eqb}
use Rattle.ra_operand.specs.declared.size.Size.{Size}
use Rattle.ra_operand.specs.declared.kind.Kind.{Kind}
use Rattle.ra_operand.specs.declared.kind.Kind.TheVariants.{Mem, Delta, Prior, Bcd, Inverted}
use Rattle.ra_operand.specs.Views.{width_of, mask_of, view_of, transformed}
use Rattle.ra_operand.specs.Operators.{computed}
use Rattle.ra_memory.specs.Image.{raw}
use Rattle.ra_indirect.specs.declared.node.Node.{Node}
use Rattle.ra_indirect.specs.declared.node.Node.TheVariants.{Const, Cell as CellNode, View, Arith}
use Rattle.ra_indirect.specs.Trees.{Tracked}
use Rattle.ra_indirect.specs.Pools.{IsCell, spelled_at, spelled_by, node_at, MayFollow, IsCellOf, tracked_of}
use Rattle.ra_indirect.specs.Interned.{IsPool}
use Rattle.ra_indirect.proofs.SpelledLemmas.{may_follow, NamesBelow, cell_at_cell, all_alone}
use Rattle.ra_memref.specs.Numbers.{NumbersSeen}
use Rattle.ra_memref.specs.Values.{moved_by}
use Rattle.ra_memref.specs.Layout.{HasSlot, IsLaid, tracked_there}
use Rattle.ra_memref.specs.Pass.{prior_after, place_in, number_in, prior_in, value_at, value_after, cells_after}
use Rattle.ra_memref.specs.Pass.{earlier_after, places_after, marked_after, priors_after, reads_at, IsAgreedAt}
use Rattle.ra_memref.specs.Pass.{IsSizedFor}
use Rattle.ra_memref.specs.Due.{earlier_by, kept_by, IsQuiet, IsUnmarked, Names}
use Rattle.ra_memref.proofs.LaidLemmas.{cells_grow, is_cell_there}
use Rattle.ra_memref.proofs.Passed.{cell_count, TakesNode}
use Rattle.ra_memref.proofs.PriorLemmas.{prior_after-again}
use Rattle.ra_memref.proofs.PassLemmas.{IsPriorSlot, prior_slot, cell_node_slot, names, node_within}

-- setting what stands there changes nothing
stays : {A : Type 0} (xs : List A) (i : ℕ) (d v : A) → get_or xs i d ≡ v → xs ≡ set xs i v
stays xs i d v is = sym (set-get_or xs i d) ∙ ap (set xs i) is

module _ (slots image : List ℕ) (k : ℕ) (numbers : NumbersSeen) where
  value_stays : (node : Node) → IsQuiet node numbers slots k → IsUnmarked node numbers (get_or slots k 0)
      → IsAgreedAt node numbers image (get_or slots k 0)
      → get_or numbers.values k 0 ≡ value_after node numbers image slots k
  value_stays (Const n) quiet unmarked agreed = quiet
  value_stays (CellNode width pointer offset) quiet unmarked agreed = sym quiet.1 ∙ agreed unmarked
      ∙ ap (raw width image) quiet.0
  value_stays (View Mem size c) quiet unmarked agreed = quiet
  value_stays (View Delta size c) quiet unmarked agreed = quiet
  value_stays (View Prior size c) quiet unmarked agreed = quiet.1
      ∙ ap (λ n. transformed Prior size (view_of size n)) quiet.0
  value_stays (View Bcd size c) quiet unmarked agreed = quiet
  value_stays (View Inverted size c) quiet unmarked agreed = quiet
  value_stays (Arith op left right) quiet unmarked agreed = quiet

  -- taking a quiet node, which is no marked cell, changes nothing
  pub idle_takes : (node : Node) → IsQuiet node numbers slots k → IsUnmarked node numbers (get_or slots k 0)
      → IsAgreedAt node numbers image (get_or slots k 0) → TakesNode node slots image k numbers numbers
  idle_takes node quiet unmarked agreed = record {
    values = stays numbers.values k 0 (value_after node numbers image slots k)
        (value_stays node quiet unmarked agreed);
    cells = cells_stay node quiet unmarked agreed;
    earlier = earlier_stay node quiet;
    places = places_stay node quiet;
    priors = priors_stay node quiet;
    marked = marked_stay node unmarked;
    widths = refl;
  }
    where
      cells_stay : (node : Node) → IsQuiet node numbers slots k → IsUnmarked node numbers (get_or slots k 0)
          → IsAgreedAt node numbers image (get_or slots k 0)
          → numbers.cells ≡ cells_after node numbers image (get_or slots k 0)
      cells_stay (Const n) quiet unmarked agreed = refl
      cells_stay (CellNode width pointer offset) quiet unmarked agreed = stays numbers.cells (get_or slots k 0) 0
          (number_in numbers image pointer offset width) (agreed unmarked ∙ ap (raw width image) quiet.0)
      cells_stay (View kind size c) quiet unmarked agreed = refl
      cells_stay (Arith op left right) quiet unmarked agreed = refl

      earlier_stay : (node : Node) → IsQuiet node numbers slots k
          → numbers.earlier ≡ earlier_after node numbers (get_or slots k 0)
      earlier_stay (Const n) quiet = refl
      earlier_stay (CellNode width pointer offset) quiet = stays numbers.earlier (get_or slots k 0) 0
          (get_or numbers.cells (get_or slots k 0) 0) (quiet.2 ∙ sym quiet.1)
      earlier_stay (View kind size c) quiet = refl
      earlier_stay (Arith op left right) quiet = refl

      places_stay : (node : Node) → IsQuiet node numbers slots k
          → numbers.watches.places ≡ places_after node numbers (get_or slots k 0)
      places_stay (Const n) quiet = refl
      places_stay (CellNode width pointer offset) quiet = stays numbers.watches.places (get_or slots k 0) 0
          (place_in numbers pointer offset) quiet.0
      places_stay (View kind size c) quiet = refl
      places_stay (Arith op left right) quiet = refl

      marked_stay : (node : Node) → IsUnmarked node numbers (get_or slots k 0)
          → numbers.watches.marked ≡ marked_after node numbers (get_or slots k 0)
      marked_stay (Const n) unmarked = refl
      marked_stay (CellNode width pointer offset) unmarked = stays numbers.watches.marked
          (get_or slots k 0) true false unmarked
      marked_stay (View kind size c) unmarked = refl
      marked_stay (Arith op left right) unmarked = refl

      priors_stay : (node : Node) → IsQuiet node numbers slots k → numbers.priors ≡ priors_after node numbers slots k
      priors_stay (Const n) quiet = refl
      priors_stay (CellNode width pointer offset) quiet = refl
      priors_stay (View Mem size c) quiet = refl
      priors_stay (View Delta size c) quiet = refl
      priors_stay (View Prior size c) quiet = stays numbers.priors (get_or slots k 0) 0 (prior_in numbers
          (mask_of size) (get_or slots k 0) (get_or slots c 0) c) quiet.0
      priors_stay (View Bcd size c) quiet = refl
      priors_stay (View Inverted size c) quiet = refl
      priors_stay (Arith op left right) quiet = refl

  -- and reads nothing
  pub idle_reads : (node : Node) → IsQuiet node numbers slots k → IsUnmarked node numbers (get_or slots k 0)
      → reads_at node numbers (get_or slots k 0) ≡ 0
  idle_reads (Const n) quiet unmarked = refl
  idle_reads (CellNode width pointer offset) quiet unmarked =
      rw (
        unmarked,
        eq-eqb (get_or numbers.watches.places (get_or slots k 0) 0)
            (place_in numbers pointer offset) quiet.0,
      ) refl
  idle_reads (View kind size c) quiet unmarked = refl
  idle_reads (Arith op left right) quiet unmarked = refl

module _ (nodes : List Node) (pool : IsPool nodes) (slots : List ℕ) (laid : IsLaid nodes slots) where
  -- the slot of a cell's node, and how many cells stand behind it
  slot_of_cell : (j : ℕ) → j < length nodes → (width : ℕ) (node : Node) → node_at nodes j ≡ node → IsCellOf width node
      → (get_or slots j 0 ≡ cell_count nodes j) × (cell_count nodes (suc j) ≡ suc (cell_count nodes j))
  slot_of_cell j within width (Const n) same is = absurd is
  slot_of_cell j within width (CellNode w pointer offset) same is =
      let facts = cell_node_slot nodes pool slots laid j within pointer offset w same in (facts.0, facts.1)
  slot_of_cell j within width (View kind size c) same is = absurd is
  slot_of_cell j within width (Arith op left right) same is = absurd is

  slot_less : (j k : ℕ) → j < k → k < length nodes → (w v : ℕ) → IsCellOf w (node_at nodes j)
      → IsCellOf v (node_at nodes k) → get_or slots j 0 < get_or slots k 0
  slot_less j k less within w v is is' =
      let one = slot_of_cell j (omega (arith, less, within)) w (node_at nodes j) refl is in
      let other = slot_of_cell k within v (node_at nodes k) refl is' in
      omega (arith, one.0, one.1, other.0, cells_grow (spelled_by nodes) (suc j) k less)

  -- two cells have two slots
  slots_apart : (j k : ℕ) → j < length nodes → k < length nodes → (w v : ℕ) → IsCellOf w (node_at nodes j)
      → IsCellOf v (node_at nodes k) → (j ≡ k → ⊥) → get_or slots j 0 ≡ get_or slots k 0 → ⊥
  slots_apart j k in_j in_k w v is is' apart same = elim (cases_lt j k) [
    | inl less ↦ absurd (omega (arith, same, slot_less j k less in_k w v is is'))
    | inr more ↦
        let less : k < j = omega (arith, more, apart) in
        absurd (omega (arith, same, slot_less k j less in_j v w is' is))
  ]

  prior_slot_of : (j : ℕ) → j < length nodes → (size : Size) (c : ℕ) → node_at nodes j ≡ View Prior size c
      → IsPriorSlot nodes pool slots laid (tracked_there (spelled_by nodes) size c) j (get_or slots j 0)
  prior_slot_of j within size c same =
      prior_slot nodes pool slots laid (tracked_there (spelled_by nodes) size c) j (get_or slots j 0) within
      (subst (λ x. HasSlot (spelled_by nodes) j x (get_or slots j 0)) same (laid.each j within))

  -- two priors of one slot are of one mask of one cell
  shared : (j k : ℕ) → j < length nodes → k < length nodes → (s t : Size) (c d : ℕ) → node_at nodes j ≡ View Prior s c
      → node_at nodes k ≡ View Prior t d → get_or slots j 0 ≡ get_or slots k 0 → (mask_of s ≡ mask_of t) × (c ≡ d)
  shared j k in_j in_k s t c d is is' same =
      let one = prior_slot_of j in_j s c is in
      let other = prior_slot_of k in_k t d is' in
      let a : Tracked = tracked_there (spelled_by nodes) s c in
      let b : Tracked = tracked_there (spelled_by nodes) t d in
      let alike : a ≡ b = sym one.stands ∙ get_or_default (tracked_of nodes) (get_or slots j 0) a b one.within
      ∙ ap (λ i. get_or (tracked_of nodes) i b) same ∙ other.stands in
      let may = subst (MayFollow nodes) is (may_follow nodes pool j in_j) in
      let may' = subst (MayFollow nodes) is' (may_follow nodes pool k in_k) in
      let here = is_cell_there (width_of s) (spelled_at (spelled_by nodes) c) (cell_at_cell nodes pool
      (width_of s) c may.0 may.1) in
      let there = is_cell_there (width_of t) (spelled_at (spelled_by nodes) d) (cell_at_cell nodes pool
      (width_of t) d may'.0 may'.1) in (
        ap (λ (u : Tracked). u.mask) alike,
        all_alone nodes pool d may'.0 c may.0 (here ∙ ap (λ (u : Tracked). IsCell u.cell) alike ∙ sym there),
      )

  module _ (image : List ℕ) (k : ℕ) (within : k < length nodes) (old new : NumbersSeen) (sized : IsSizedFor nodes old)
      (takes : TakesNode (node_at nodes k) slots image k old new) where
    -- another node keeps its number
    value_other : (i : ℕ) → (i ≡ k → ⊥) → get_or new.values i 0 ≡ get_or old.values i 0
    value_other i apart =
        ap (λ vs. get_or vs i 0) takes.values
        ∙ get_or-set_other old.values k i (value_after (node_at nodes k) old image slots k) 0 apart

    value_here : get_or new.values k 0 ≡ value_after (node_at nodes k) old image slots k
    value_here =
        ap (λ vs. get_or vs k 0) takes.values
        ∙ get_or-set_same old.values k (value_after (node_at nodes k) old image slots k) 0 (omega
        (arith, sized.values, within))

    -- another cell keeps its rows
    record SameRows (slot : ℕ) : Type 0 where
      cells : get_or new.cells slot 0 ≡ get_or old.cells slot 0
      earlier : get_or new.earlier slot 0 ≡ get_or old.earlier slot 0
      places : get_or new.watches.places slot 0 ≡ get_or old.watches.places slot 0
      marked : get_or new.watches.marked slot true ≡ get_or old.watches.marked slot true

    same_rows_by : (node : Node) → TakesNode node slots image k old new → (slot : ℕ)
        → ((width : ℕ) → IsCellOf width node → slot ≡ get_or slots k 0 → ⊥) → SameRows slot
    same_rows_by (Const n) takes slot apart = record {
      cells = ap (λ xs. get_or xs slot 0) takes.cells;
      earlier = ap (λ xs. get_or xs slot 0) takes.earlier;
      places = ap (λ xs. get_or xs slot 0) takes.places;
      marked = ap (λ xs. get_or xs slot true) takes.marked;
    }
    same_rows_by (CellNode width pointer offset) takes slot apart = record {
      cells = ap (λ xs. get_or xs slot 0) takes.cells
          ∙ get_or-set_other old.cells (get_or slots k 0) slot (number_in old image pointer offset width) 0
          (apart width refl);
      earlier = ap (λ xs. get_or xs slot 0) takes.earlier
          ∙ get_or-set_other old.earlier (get_or slots k 0) slot (get_or old.cells (get_or slots k 0) 0) 0
          (apart width refl);
      places = ap (λ xs. get_or xs slot 0) takes.places
          ∙ get_or-set_other old.watches.places (get_or slots k 0) slot (place_in old pointer offset) 0
          (apart width refl);
      marked = ap (λ xs. get_or xs slot true) takes.marked
          ∙ get_or-set_other old.watches.marked (get_or slots k 0) slot false true (apart width refl);
    }
    same_rows_by (View kind size c) takes slot apart = record {
      cells = ap (λ xs. get_or xs slot 0) takes.cells;
      earlier = ap (λ xs. get_or xs slot 0) takes.earlier;
      places = ap (λ xs. get_or xs slot 0) takes.places;
      marked = ap (λ xs. get_or xs slot true) takes.marked;
    }
    same_rows_by (Arith op left right) takes slot apart = record {
      cells = ap (λ xs. get_or xs slot 0) takes.cells;
      earlier = ap (λ xs. get_or xs slot 0) takes.earlier;
      places = ap (λ xs. get_or xs slot 0) takes.places;
      marked = ap (λ xs. get_or xs slot true) takes.marked;
    }

    same_rows : (j : ℕ) → j < length nodes → (width : ℕ) → IsCellOf width (node_at nodes j) → (j ≡ k → ⊥)
        → SameRows (get_or slots j 0)
    same_rows j in_j width is apart =
        same_rows_by (node_at nodes k) takes (get_or slots j 0)
        (λ v is'. slots_apart j k in_j within width v is is' apart)

    -- a prior stays where its own node would leave it
    same_prior_by : (node : Node) → TakesNode node slots image k old new → (slot : ℕ)
        → ((size : Size) (c : ℕ) → node ≡ View Prior size c → slot ≡ get_or slots k 0 → get_or old.priors slot 0
        ≡ prior_in old (mask_of size) (get_or slots k 0) (get_or slots c 0) c)
        → get_or new.priors slot 0 ≡ get_or old.priors slot 0
    same_prior_by (Const n) takes slot leaves = ap (λ xs. get_or xs slot 0) takes.priors
    same_prior_by (CellNode width pointer offset) takes slot leaves = ap (λ xs. get_or xs slot 0) takes.priors
    same_prior_by (View Mem size c) takes slot leaves = ap (λ xs. get_or xs slot 0) takes.priors
    same_prior_by (View Delta size c) takes slot leaves = ap (λ xs. get_or xs slot 0) takes.priors
    same_prior_by (View Bcd size c) takes slot leaves = ap (λ xs. get_or xs slot 0) takes.priors
    same_prior_by (View Inverted size c) takes slot leaves = ap (λ xs. get_or xs slot 0) takes.priors
    same_prior_by (Arith op left right) takes slot leaves = ap (λ xs. get_or xs slot 0) takes.priors
    same_prior_by (View Prior size c) takes slot leaves =
        let prior : ℕ = prior_in old (mask_of size) (get_or slots k 0) (get_or slots c 0) c in
        elim (cases_eq slot (get_or slots k 0)) [
          | inl same ↦
              let here : get_or old.priors (get_or slots k 0) 0 ≡ prior = ap (λ i. get_or old.priors i 0) (sym same)
              ∙ leaves size c refl same in
              ap (λ xs. get_or xs slot 0) (takes.priors ∙ sym (stays old.priors (get_or slots k 0) 0 prior here))
          | inr apart ↦ ap (λ xs. get_or xs slot 0) takes.priors
              ∙ get_or-set_other old.priors (get_or slots k 0) slot prior 0 apart
        ]

    -- those that name the node see the numbers that they saw
    abbrev pub Unseen : Type 0
    Unseen = (value_at new k ≡ value_at old k)
        × (earlier_by (node_at nodes k) new slots k ≡ earlier_by (node_at nodes k) old slots k)

    value_seen : (i : ℕ) → (i ≡ k → Unseen) → get_or new.values i 0 ≡ get_or old.values i 0
    value_seen i unseen = elim (cases_eq i k) [
      | inl same ↦ ap (λ n. get_or new.values n 0) same ∙ (unseen same).0 ∙ ap (λ n. get_or old.values n 0) (sym same)
      | inr apart ↦ value_other i apart
    ]

    earlier_of : (width : ℕ) (node : Node) → IsCellOf width node → (numbers : NumbersSeen)
        → earlier_by node numbers slots k ≡ get_or numbers.earlier (get_or slots k 0) 0
    earlier_of width (Const n) is numbers = absurd is
    earlier_of width (CellNode w pointer offset) is numbers = refl
    earlier_of width (View kind size c) is numbers = absurd is
    earlier_of width (Arith op left right) is numbers = absurd is

    earlier_seen : (i : ℕ) → i < length nodes → (width : ℕ) → IsCellOf width (node_at nodes i) → (i ≡ k → Unseen)
        → get_or new.earlier (get_or slots i 0) 0 ≡ get_or old.earlier (get_or slots i 0) 0
    earlier_seen i in_i width is unseen = elim (cases_eq i k) [
      | inl same ↦
          let is' : IsCellOf width (node_at nodes k) = subst (λ n. IsCellOf width (node_at nodes n)) same is in
          ap (λ n. get_or new.earlier (get_or slots n 0) 0) same ∙ sym (earlier_of width (node_at nodes k) is' new)
          ∙ (unseen same).1
          ∙ earlier_of width (node_at nodes k) is' old ∙ ap (λ n. get_or old.earlier (get_or slots n 0) 0) (sym same)
      | inr apart ↦ (same_rows i in_i width is apart).earlier
    ]

    module _ (j : ℕ) (in_j : j < length nodes) (apart : j ≡ k → ⊥) where
      earlier_other_by : (node : Node) → node_at nodes j ≡ node
          → earlier_by node new slots j ≡ earlier_by node old slots j
      earlier_other_by (Const n) is = value_other j apart
      earlier_other_by (CellNode width pointer offset) is =
          (same_rows j in_j width (subst (IsCellOf width) (sym is) refl) apart).earlier
      earlier_other_by (View kind size c) is = value_other j apart
      earlier_other_by (Arith op left right) is = value_other j apart

      kept_other_by : (node : Node) → node_at nodes j ≡ node → kept_by node new slots j ≡ kept_by node old slots j
      kept_other_by (Const n) is = value_other j apart
      kept_other_by (CellNode width pointer offset) is =
          (same_rows j in_j width (subst (IsCellOf width) (sym is) refl) apart).cells
      kept_other_by (View kind size c) is = value_other j apart
      kept_other_by (Arith op left right) is = value_other j apart

      -- the kept number of another node is the one of the frame before where it was
      pub settled_other : earlier_by (node_at nodes j) new slots j ≡ kept_by (node_at nodes j) new slots j
          → earlier_by (node_at nodes j) old slots j ≡ kept_by (node_at nodes j) old slots j
      settled_other settled = sym (earlier_other_by (node_at nodes j) refl) ∙ settled
          ∙ kept_other_by (node_at nodes j) refl

      same_prior : (size : Size) (c : ℕ) → node_at nodes j ≡ View Prior size c
          → IsQuiet (View Prior size c) old slots j
          → get_or new.priors (get_or slots j 0) 0 ≡ get_or old.priors (get_or slots j 0) 0
      same_prior size c is quiet =
          same_prior_by (node_at nodes k) takes (get_or slots j 0)
          (λ t d is' same.
          let alike = shared j k in_j within size t c d is is' same in
          quiet.0 ∙ ap (λ m. prior_in old m (get_or slots j 0) (get_or slots c 0) c) alike.0
          ∙ ap (λ i. prior_in old (mask_of t) i (get_or slots c 0) c) same
          ∙ ap (λ e. prior_in old (mask_of t) (get_or slots k 0) (get_or slots e 0) e) alike.1)

      cell_seen : (kind : Kind) (size : Size) (c : ℕ) → node_at nodes j ≡ View kind size c
          → (c < length nodes) × IsCellOf (width_of size) (node_at nodes c)
      cell_seen kind size c is = let may = subst (MayFollow nodes) is (may_follow nodes pool j in_j) in (may.0, may.1)

      quiet_by : (node : Node) → node_at nodes j ≡ node → ((i : ℕ) → Names node i → i ≡ k → Unseen)
          → IsQuiet node old slots j → IsQuiet node new slots j
      quiet_by (Const n) is unseen quiet = value_other j apart ∙ quiet
      quiet_by (CellNode width pointer offset) is unseen quiet =
          let rows = same_rows j in_j width (subst (IsCellOf width) (sym is) refl) apart in
          let value = value_other j apart in (
            rows.places ∙ quiet.0 ∙ ap (moved_by offset) (sym (value_seen pointer (unseen pointer refl))),
            rows.cells ∙ quiet.1 ∙ sym value,
            rows.earlier ∙ quiet.2 ∙ sym value,
          )
      quiet_by (View Mem size c) is unseen quiet =
          value_other j apart ∙ quiet
          ∙ ap (λ n. transformed Mem size (view_of size n)) (sym (value_seen c (unseen c refl)))
      quiet_by (View Bcd size c) is unseen quiet =
          value_other j apart ∙ quiet
          ∙ ap (λ n. transformed Bcd size (view_of size n)) (sym (value_seen c (unseen c refl)))
      quiet_by (View Inverted size c) is unseen quiet =
          value_other j apart ∙ quiet
          ∙ ap (λ n. transformed Inverted size (view_of size n)) (sym (value_seen c (unseen c refl)))
      quiet_by (View Delta size c) is unseen quiet =
          let cell = cell_seen Delta size c is in
          value_other j apart ∙ quiet
          ∙ ap (λ n. transformed Delta size (view_of size n)) (sym
          (earlier_seen c cell.0 (width_of size) cell.1 (unseen c refl)))
      quiet_by (View Prior size c) is unseen quiet =
          let cell = cell_seen Prior size c is in
          let prior = same_prior size c is quiet in
          let numbers = ap₂ (λ b n. prior_after (mask_of size) b n (get_or new.priors (get_or slots j 0) 0))
          (earlier_seen c cell.0 (width_of size) cell.1 (unseen c refl)) (value_seen c (unseen c refl)) in
          let moved = numbers ∙ ap (λ p. prior_after (mask_of size) (get_or old.earlier (get_or slots c 0) 0)
          (get_or old.values c 0) p) prior in (
            prior ∙ quiet.0 ∙ sym moved,
            value_other j apart ∙ quiet.1 ∙ ap (λ n. transformed Prior size (view_of size n)) (sym prior),
          )
      quiet_by (Arith op left right) is unseen quiet =
          value_other j apart ∙ quiet
          ∙ ap₂ (computed op) (sym (value_seen left (unseen left (inl refl)))) (sym
          (value_seen right (unseen right (inr refl))))

      -- another node stays quiet where it sees the numbers that it saw
      pub quiet_other : ((i : ℕ) → Names (node_at nodes j) i → i ≡ k → Unseen) → IsQuiet (node_at nodes j) old slots j
          → IsQuiet (node_at nodes j) new slots j
      quiet_other unseen quiet = quiet_by (node_at nodes j) refl unseen quiet

      unmarked_by : (node : Node) → node_at nodes j ≡ node → IsUnmarked node old (get_or slots j 0)
          → IsUnmarked node new (get_or slots j 0)
      unmarked_by (Const n) is before = tt
      unmarked_by (CellNode width pointer offset) is before = (same_rows j in_j width
          (subst (IsCellOf width) (sym is) refl) apart).marked ∙ before
      unmarked_by (View kind size c) is before = tt
      unmarked_by (Arith op left right) is before = tt

      pub unmarked_other : IsUnmarked (node_at nodes j) old (get_or slots j 0)
          → IsUnmarked (node_at nodes j) new (get_or slots j 0)
      unmarked_other before = unmarked_by (node_at nodes j) refl before

    below_apart : (i : ℕ) → i < k → i ≡ k → ⊥
    below_apart i less same = absurd (omega (arith, less, same))

    value_below : (i : ℕ) → i < k → get_or new.values i 0 ≡ get_or old.values i 0
    value_below i less = value_other i (below_apart i less)

    here_by : (node : Node) → node_at nodes k ≡ node → TakesNode node slots image k old new
        → get_or new.values k 0 ≡ value_after node old image slots k → NamesBelow k node
        → earlier_by node new slots k ≡ value_at new k → IsQuiet node new slots k
    here_by (Const n) is takes value below again = value
    here_by (CellNode width pointer offset) is takes value below again =
        let slot : ℕ = get_or slots k 0 in
        let there : slot < length old.cells = (node_within nodes pool slots laid k within old sized
        (CellNode width pointer offset) (sym is)).1 in (
          ap (λ xs. get_or xs (get_or slots k 0) 0) takes.places
              ∙ get_or-set_same old.watches.places (get_or slots k 0) (place_in old pointer offset) 0 (omega
              (arith, there, sized.cells, sized.places))
              ∙ ap (moved_by offset) (sym (value_below pointer below)),
          ap (λ xs. get_or xs (get_or slots k 0) 0) takes.cells
              ∙ get_or-set_same old.cells (get_or slots k 0) (number_in old image pointer offset width) 0 there
              ∙ sym value,
          again,
        )
    here_by (View Mem size c) is takes value below again =
        value ∙ ap (λ n. transformed Mem size (view_of size n)) (sym (value_below c below))
    here_by (View Bcd size c) is takes value below again =
        value ∙ ap (λ n. transformed Bcd size (view_of size n)) (sym (value_below c below))
    here_by (View Inverted size c) is takes value below again =
        value ∙ ap (λ n. transformed Inverted size (view_of size n)) (sym (value_below c below))
    here_by (View Delta size c) is takes value below again =
        value ∙ ap (λ n. transformed Delta size (view_of size n)) (ap (λ xs. get_or xs (get_or slots c 0) 0)
        (sym takes.earlier))
    here_by (View Prior size c) is takes value below again =
        let there : get_or slots k 0 < length old.priors = (node_within nodes pool slots laid k within old sized
        (View Prior size c) (sym is)).2 in
        let now : ℕ = prior_in old (mask_of size) (get_or slots k 0) (get_or slots c 0) c in
        let prior : get_or new.priors (get_or slots k 0) 0
        ≡ now = ap (λ xs. get_or xs (get_or slots k 0) 0) takes.priors
        ∙ get_or-set_same old.priors (get_or slots k 0) now 0 there in
        let earlier = ap (λ xs. get_or xs (get_or slots c 0) 0) takes.earlier in
        let numbers = ap₂ (λ b n. prior_after (mask_of size) b n (get_or new.priors (get_or slots k 0) 0)) earlier
        (value_below c below) in
        let again_now = numbers
        ∙ ap (λ p. prior_after (mask_of size) (get_or old.earlier (get_or slots c 0) 0)
        (get_or old.values c 0) p) prior
        ∙ prior_after-again (mask_of size) (get_or old.earlier (get_or slots c 0) 0) (get_or old.values c 0)
        (get_or old.priors (get_or slots k 0) 0) in (
          prior ∙ sym again_now,
          value ∙ ap (λ n. transformed Prior size (view_of size n)) (sym prior),
        )
    here_by (Arith op left right) is takes value below again =
        value ∙ ap₂ (computed op) (sym (value_below left below.0)) (sym (value_below right below.1))

    kept_here_by : (node : Node) → node_at nodes k ≡ node → TakesNode node slots image k old new
        → get_or new.values k 0 ≡ value_after node old image slots k → kept_by node new slots k ≡ value_at new k
    kept_here_by (Const n) is takes value = refl
    kept_here_by (CellNode width pointer offset) is takes value =
        let there : get_or slots k 0 < length old.cells = (node_within nodes pool slots laid k within old sized
        (CellNode width pointer offset) (sym is)).1 in
        ap (λ xs. get_or xs (get_or slots k 0) 0) takes.cells
        ∙ get_or-set_same old.cells (get_or slots k 0) (number_in old image pointer offset width) 0 there ∙ sym value
    kept_here_by (View kind size c) is takes value = refl
    kept_here_by (Arith op left right) is takes value = refl

    -- the kept number of a node that was taken is its number
    pub kept_here : kept_by (node_at nodes k) new slots k ≡ value_at new k
    kept_here = kept_here_by (node_at nodes k) refl takes value_here

    -- a node that was taken is quiet, unless it is a cell with another number than at the frame before
    pub quiet_here : earlier_by (node_at nodes k) new slots k ≡ value_at new k → IsQuiet (node_at nodes k) new slots k
    quiet_here again =
        here_by (node_at nodes k) refl takes value_here (names nodes pool slots laid k within) again

    marked_by_node : (node : Node) → node_at nodes k ≡ node → TakesNode node slots image k old new
        → IsUnmarked node new (get_or slots k 0)
    marked_by_node (Const n) is takes = tt
    marked_by_node (CellNode width pointer offset) is takes =
        let there : get_or slots k 0 < length old.cells = (node_within nodes pool slots laid k within old sized
        (CellNode width pointer offset) (sym is)).1 in
        ap (λ xs. get_or xs (get_or slots k 0) true) takes.marked
        ∙ get_or-set_same old.watches.marked (get_or slots k 0) false true (omega
        (arith, there, sized.cells, sized.marked))
    marked_by_node (View kind size c) is takes = tt
    marked_by_node (Arith op left right) is takes = tt

    pub unmarked_here : IsUnmarked (node_at nodes k) new (get_or slots k 0)
    unmarked_here = marked_by_node (node_at nodes k) refl takes
