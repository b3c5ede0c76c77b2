-- A pass over the nodes of a pool, in order: one node more takes up the frame.
use Rattle.std.proofs.Common.{◌≡◌, ℕ, suc, ◌<◌, ◌≤◌, List, [], ◌∷◌, length, take, map, get_or, set, refl, ap, ap₂, sym}
use Rattle.std.proofs.Common.{subst, ◌∙◌, ◌⊎◌, inl, inr, arith, length-append}
use Rattle.std.proofs.lemmas.List.{get_or-map, length-take, get_or-set_same, get_or-set_other}
use Rattle.std.proofs.lemmas.Bool.{cases_eq}
use Rattle.std.proofs.lemmas.Option.{get_or_from_slice_get, slice_get_within}
use Rattle.std.proofs.Math.Seq.{get_or-append_seam}
use Rattle.ra_operand.specs.declared.size.Size.{Size}
use Rattle.ra_operand.specs.declared.kind.Kind.{Kind}
use Rattle.ra_operand.specs.declared.kind.Kind.TheVariants.{Mem, Delta, Prior, Bcd, Inverted}
use Rattle.ra_operand.specs.Views.{width_of, mask_of, view_of, transformed}
use Rattle.ra_operand.specs.Operators.{computed}
use Rattle.ra_memory.specs.Image.{History, raw}
use Rattle.ra_indirect.specs.declared.node.Node.{Node}
use Rattle.ra_indirect.specs.declared.node.Node.TheVariants.{Const, Cell as CellNode, View, Arith}
use Rattle.ra_indirect.specs.Trees.{Cell, Tracked}
use Rattle.ra_indirect.specs.Pools.{Spelled, tree_in, cell_in, tracked_at, spelled_at, spelled_with, spelled_by}
use Rattle.ra_indirect.specs.Pools.{node_at, MayFollow, IsValued, IsCellOf, cells_of, tracked_of}
use Rattle.ra_indirect.specs.Interned.{Interns, IsPool}
use Rattle.ra_indirect.proofs.Spelling.{spelled_of, length-spelled_by}
use Rattle.ra_indirect.proofs.SpelledLemmas.{may_follow, names_below, NamesBelow, tree_at_valued, cell_at_cell}
use Rattle.ra_memref.specs.Numbers.{NumbersSeen}
use Rattle.ra_memref.specs.Values.{Start, looked_at, moved_by, masked_by, value_of, cell_number, cell_place}
use Rattle.ra_memref.specs.Values.{tracked_number}
use Rattle.ra_memref.specs.Table.{no_cell, spelled_value}
use Rattle.ra_memref.specs.Layout.{cells_before, tracked_before, cell_there, tracked_there, HasSlot, IsLaid}
use Rattle.ra_memref.specs.Pass.{prior_after, place_in, number_in, prior_in, looked_in, value_after, IsWithin}
use Rattle.ra_memref.specs.Pass.{IsSizedFor}
use Rattle.ra_memref.proofs.Halfway.{IsDone, IsHalfway, done_more, halfway_more, halfway_again}
use Rattle.ra_memref.proofs.LaidLemmas.{cells_one, cells_same, tracked_same, cells_grow, tracked_grow, tracked_front}
use Rattle.ra_memref.proofs.LaidLemmas.{cell_stands, cells_all, tracked_all, none_tracked, is_cell_there}
use Rattle.ra_memref.proofs.PriorLemmas.{tracked_number-more, prior_after-again}
use Rattle.ra_memref.proofs.Passed.{numbers_after, kept_priors, places_at, cell_count, tracked_count, IsPassed}
use Rattle.ra_memref.proofs.Passed.{TakesNode, value_of_tree, number_of_cell, view_value}

module _ (nodes : List Node) (pool : IsPool nodes) (slots : List ℕ) (laid : IsLaid nodes slots) where
  abbrev spelled : List Spelled
  spelled = spelled_by nodes

  inside : (k : ℕ) → k < length nodes → k < length spelled
  inside k within = omega (arith, length-spelled_by nodes)

  -- where the number of a cell's node is kept
  pub record IsCellSlot (c slot : ℕ) : Type 0 where
    pub here : slot ≡ length (cells_before spelled c)
    pub stands : get_or (cells_of nodes) slot no_cell ≡ cell_there (spelled_at spelled c)
    pub below : (k : ℕ) → c < k → slot < length (cells_before spelled k)
    pub within : slot < length (cells_of nodes)

  slot_by : (width c : ℕ) (node : Node) → node_at nodes c ≡ node → IsCellOf width node → HasSlot
      spelled c node (get_or slots c 0) → get_or slots c 0 ≡ length (cells_before spelled c)
  slot_by width c (Const n) same is has = absurd is
  slot_by width c (CellNode w pointer offset) same is has = has
  slot_by width c (View kind size d) same is has = absurd is
  slot_by width c (Arith op left right) same is has = absurd is

  pub cell_slot : (width c : ℕ) → c < length nodes → IsCellOf width (node_at nodes c) → IsCellSlot c (get_or slots c 0)
  cell_slot width c within is =
      let here = slot_by width c (node_at nodes c) refl is (laid.each c within) in
      let there = is_cell_there width (spelled_at spelled c) (cell_at_cell nodes pool width c within is) in
      let one = cells_one spelled c (cell_there (spelled_at spelled c)) (inside c within) there in
      let below : (k : ℕ) → c < k → get_or slots c 0 < length (cells_before spelled k) =
      λ k less. omega (
        arith,
        here,
        ap length one,
        length-append (cells_before spelled c) (cell_there (spelled_at spelled c) ∷ []),
        cells_grow spelled (suc c) k (omega arith),
      ) in
      record {
        here = here;
        stands = ap (λ i. get_or (cells_of nodes) i no_cell) here
            ∙ cell_stands spelled c (cell_there (spelled_at spelled c)) (inside c within) there;
        below = below;
        within = omega (arith, below (length nodes) within, ap length (cells_all nodes));
      }

  -- where a prior is kept
  pub record IsPriorSlot (t : Tracked) (k slot : ℕ) : Type 0 where
    pub stands : get_or (tracked_of nodes) slot t ≡ t
    pub within : slot < length (tracked_of nodes)
    pub once : ((slot < tracked_count nodes k) × (tracked_count nodes (suc k)
        ≡ tracked_count nodes k)) ⊎ ((slot ≡ tracked_count nodes k)
        × (tracked_count nodes (suc k) ≡ suc (tracked_count nodes k)))

  prior_stands : (t : Tracked) (k m slot : ℕ) → m ≤ length nodes
      → slot < length (tracked_before spelled m) → get_or (tracked_before spelled m) slot t ≡ t
      → (get_or (tracked_of nodes) slot t ≡ t) × (slot < length (tracked_of nodes))
  prior_stands t k m slot few below is = (
    ap (λ ts. get_or ts slot t) (sym (tracked_all nodes))
        ∙ tracked_front spelled m (length nodes) few slot t below ∙ is,
    omega (arith, tracked_grow spelled m (length nodes) few, ap length (tracked_all nodes)),
  )

  pub prior_slot : (t : Tracked) (k slot : ℕ) → k < length nodes → Interns
      (tracked_before spelled k) (tracked_before spelled (suc k)) t slot → IsPriorSlot t k slot
  prior_slot t k slot within (inl found) =
      let below : slot < tracked_count nodes k = slice_get_within (tracked_before spelled k) slot t found.stands in
      let there = prior_stands t k k slot (omega arith) below
      (get_or_from_slice_get (tracked_before spelled k) slot t t found.stands) in
      record { stands = there.0; within = there.1; once = inl (below, ap length found.same) }
  prior_slot t k slot within (inr fresh) =
      let grown : tracked_count nodes (suc k) ≡ suc (tracked_count nodes k) =
      omega (arith, ap length fresh.grown, length-append (tracked_before spelled k) (t ∷ [])) in
      let here : get_or (tracked_before spelled (suc k)) slot t ≡ t = ap₂ (λ ts i. get_or ts i t)
      fresh.grown fresh.last ∙ get_or-append_seam (tracked_before spelled k) t [] t in
      let there = prior_stands t k (suc k) slot (omega arith) (omega (arith, fresh.last)) here in
      record { stands = there.0; within = there.1; once = inr (fresh.last, grown) }

  module _ (k : ℕ) (within : k < length nodes) where
    -- one cell or one tracked mask more, or none
    pub cell_node_slot : (pointer offset width : ℕ) → node_at nodes k ≡ CellNode width pointer
        offset → (get_or slots k 0 ≡ cell_count nodes k) × (cell_count nodes (suc k) ≡ suc
        (cell_count nodes k)) × (get_or (cells_of nodes) (get_or slots k 0) no_cell ≡ record
        { pointer = tree_in (spelled_at spelled pointer); address = offset; width = width })
    cell_node_slot pointer offset width same =
        let is : spelled_at spelled k ≡ spelled_with spelled (CellNode width pointer offset) =
        spelled_of nodes pool k within ∙ ap (spelled_with spelled) same in
        let slot = cell_slot width k within (subst (IsCellOf width) (sym same) refl) in
        let one = cells_one spelled k _ (inside k within) is in (
          slot.here,
          omega (
            arith,
            ap length one,
            length-append (cells_before spelled k)
                (record { pointer = tree_in (spelled_at spelled pointer); address = offset; width = width } ∷ []),
          ),
          slot.stands ∙ ap cell_there is,
        )

    pub counts_same : (x : Spelled) → spelled_at spelled k ≡ x → cell_in x ≡ []
        → cell_count nodes (suc k) ≡ cell_count nodes k
    counts_same x is none = ap length (cells_same spelled k x (inside k within) is none)

    pub tracked_counts_same : (x : Spelled) → spelled_at spelled k ≡ x → tracked_at x ≡ []
        → tracked_count nodes (suc k) ≡ tracked_count nodes k
    tracked_counts_same x is none = ap length (tracked_same spelled k x (inside k within) is none)

    pub names : NamesBelow k (node_at nodes k)
    names = names_below k (take k nodes) (node_at nodes k) (omega (arith, length-take k nodes)) (pool.named k within)

    module _ (old : NumbersSeen) (sized : IsSizedFor nodes old) where
      within_by : (node : Node) → node_at nodes k ≡ node → NamesBelow k node → MayFollow nodes node
          → HasSlot spelled k node (get_or slots k 0) → IsWithin node old slots k
      within_by (Const n) same below may has = tt
      within_by (CellNode width pointer offset) same below may has =
          let slot = cell_slot width k within (subst (IsCellOf width) (sym same) refl) in
          (omega (arith, sized.values, below), omega (arith, sized.cells, slot.within), may.2)
      within_by (View Prior size c) same below may has =
          let slot = cell_slot (width_of size) c may.0 may.1 in
          let prior = prior_slot (tracked_there spelled size c) k (get_or slots k 0) within has in (
            omega (arith, sized.values, below),
            omega (arith, sized.cells, slot.within),
            omega (arith, sized.priors, prior.within),
          )
      within_by (View Mem size c) same below may has = (
        omega (arith, sized.values, below),
        omega (arith, sized.cells, (cell_slot (width_of size) c may.0 may.1).within),
      )
      within_by (View Delta size c) same below may has = (
        omega (arith, sized.values, below),
        omega (arith, sized.cells, (cell_slot (width_of size) c may.0 may.1).within),
      )
      within_by (View Bcd size c) same below may has = (
        omega (arith, sized.values, below),
        omega (arith, sized.cells, (cell_slot (width_of size) c may.0 may.1).within),
      )
      within_by (View Inverted size c) same below may has = (
        omega (arith, sized.values, below),
        omega (arith, sized.cells, (cell_slot (width_of size) c may.0 may.1).within),
      )
      within_by (Arith op left right) same below may has =
          (omega (arith, sized.values, below.0), omega (arith, sized.values, below.1), may.4)

      -- what the node names is there
      pub node_within : (node : Node) → node ≡ node_at nodes k → IsWithin node old slots k
      node_within node same =
          within_by node (sym same) (subst (NamesBelow k) (sym same) names)
          (subst (MayFollow nodes) (sym same) (may_follow nodes pool k within))
          (subst (λ x. HasSlot spelled k x (get_or slots k 0)) (sym same) (laid.each k within))

      module _ (start : Start) (history : History) (image : List ℕ)
          (passed : IsPassed nodes start history image k old) where
        abbrev here : History
        here = image ∷ history

        value_there : (n : ℕ) → n < k → IsValued (node_at nodes n) → get_or old.values n 0
            ≡ value_of start (tree_in (spelled_at spelled n)) here
        value_there n below valued =
            passed.values n below ∙ value_of_tree start here (spelled_at spelled n)
            (tree_at_valued nodes pool n (omega arith) valued)

        number_there : (width n : ℕ) → n < k → IsCellOf width (node_at nodes n)
            → get_or old.values n 0 ≡ cell_number start (cell_there (spelled_at spelled n)) here
        number_there width n below is =
            passed.values n below ∙ number_of_cell start here width (spelled_at spelled n)
            (cell_at_cell nodes pool width n (omega arith) is)

        earlier_there : (width c : ℕ) → c < k → IsCellOf width (node_at nodes c)
            → get_or old.earlier (get_or slots c 0) 0
            ≡ cell_number start (cell_there (spelled_at spelled c)) history
        earlier_there width c below is =
            let slot = cell_slot width c (omega arith) is in
            passed.earlier.done (get_or slots c 0) (slot.below k below)
            ∙ get_or-map (λ d. cell_number start d history) (cells_of nodes) (get_or slots c 0) no_cell 0 slot.within
            ∙ ap (λ d. cell_number start d history) slot.stands

        kept_prior : (t : Tracked) (slot : ℕ) (h : History) → slot < length (tracked_of nodes)
            → get_or (tracked_of nodes) slot t ≡ t → get_or (kept_priors nodes start h) slot 0
            ≡ tracked_number start t h
        kept_prior t slot h below is =
            get_or-map (λ u. tracked_number start u h) (tracked_of nodes) slot t 0 below
            ∙ ap (λ u. tracked_number start u h) is

        module _ (size : Size) (c : ℕ) (below : c < k) (is : IsCellOf (width_of size) (node_at nodes
            c)) (has : HasSlot spelled k (View Prior size c) (get_or slots k 0)) where
          abbrev t : Tracked
          t = tracked_there spelled size c

          abbrev prior_now : ℕ
          prior_now = prior_in old (mask_of size) (get_or slots k 0) (get_or slots c 0) c

          slot_of_prior : IsPriorSlot t k (get_or slots k 0)
          slot_of_prior = prior_slot t k (get_or slots k 0) within has

          moved_by_numbers : (prior : ℕ) → prior_after (mask_of size) (get_or old.earlier
              (get_or slots c 0) 0) (get_or old.values c 0) prior ≡ prior_after (mask_of size)
              (cell_number start t.cell history) (cell_number start t.cell here) prior
          moved_by_numbers prior =
              ap₂ (λ b n. prior_after (mask_of size) b n prior)
              (earlier_there (width_of size) c below is) (number_there (width_of size) c below is)

          moved_prior : (prior : ℕ) → (prior ≡ tracked_number start t history) ⊎ (prior
              ≡ tracked_number start t here) → prior_after (mask_of size) (cell_number start t.cell
              history) (cell_number start t.cell here) prior ≡ tracked_number start t here
          moved_prior prior (inl old_one) =
              ap (λ p. prior_after (mask_of size) (cell_number start t.cell history)
              (cell_number start t.cell here) p) old_one
              ∙ sym (tracked_number-more start t image history)
          moved_prior prior (inr new_one) =
              ap (λ p. prior_after (mask_of size) (cell_number start t.cell history) (cell_number
              start t.cell here) p) (new_one ∙ tracked_number-more start t image history)
              ∙ prior_after-again (mask_of size) (cell_number start t.cell history)
              (cell_number start t.cell here) (tracked_number start t history)
              ∙ sym (tracked_number-more start t image history)

          prior_was : ((get_or slots k 0 < tracked_count nodes k) × (tracked_count nodes (suc k)
              ≡ tracked_count nodes k)) ⊎ ((get_or slots k 0 ≡ tracked_count nodes k) ×
              (tracked_count nodes (suc k) ≡ suc (tracked_count nodes k))) → (get_or old.priors
              (get_or slots k 0) 0 ≡ tracked_number start t history) ⊎ (get_or old.priors
              (get_or slots k 0) 0 ≡ tracked_number start t here)
          prior_was (inl again) =
              inr (passed.priors.done (get_or slots k 0) again.0
              ∙ kept_prior t (get_or slots k 0) here slot_of_prior.within slot_of_prior.stands)
          prior_was (inr fresh) =
              inl (passed.priors.left (get_or slots k 0) (omega (arith, fresh.0))
              ∙ kept_prior t (get_or slots k 0) history slot_of_prior.within slot_of_prior.stands)

          prior_is : prior_now ≡ tracked_number start t here
          prior_is =
              moved_by_numbers (get_or old.priors (get_or slots k 0) 0)
              ∙ moved_prior (get_or old.priors (get_or slots k 0) 0) (prior_was slot_of_prior.once)

          prior_done : prior_now ≡ get_or (kept_priors nodes start here) (get_or slots k 0) 0
          prior_done = prior_is ∙ sym (kept_prior t (get_or slots k 0) here slot_of_prior.within slot_of_prior.stands)

          priors_by : ((get_or slots k 0 < tracked_count nodes k) × (tracked_count nodes (suc k)
              ≡ tracked_count nodes k)) ⊎ ((get_or slots k 0 ≡ tracked_count nodes k) ×
              (tracked_count nodes (suc k) ≡ suc (tracked_count nodes k))) → IsHalfway
              (kept_priors nodes start history) (kept_priors nodes start here) (tracked_count nodes
              (suc k)) (set old.priors (get_or slots k 0) prior_now)
          priors_by (inl again) =
              subst (λ j. IsHalfway (kept_priors nodes start history) (kept_priors nodes start here)
              j (set old.priors (get_or slots k 0) prior_now)) (sym again.1)
              (halfway_again (kept_priors nodes start here) (tracked_count nodes k) old.priors
              prior_now (kept_priors nodes start history) (get_or slots k 0) again.0 (omega
              (arith, slot_of_prior.within, sized.priors)) prior_done passed.priors)
          priors_by (inr fresh) =
              let last : tracked_count nodes k ≡ get_or slots k 0 = sym fresh.0 in
              subst (λ j. IsHalfway (kept_priors nodes start history) (kept_priors nodes start here)
              j (set old.priors (get_or slots k 0) prior_now)) (ap suc fresh.0 ∙ sym fresh.1)
              (halfway_more (kept_priors nodes start here) (get_or slots k 0) old.priors prior_now
              (kept_priors nodes start history) (omega (arith, slot_of_prior.within, sized.priors))
              prior_done (subst (λ j. IsHalfway (kept_priors nodes start history)
              (kept_priors nodes start here) j old.priors) last passed.priors))

          priors_more : IsHalfway (kept_priors nodes start history) (kept_priors nodes start here)
              (tracked_count nodes (suc k)) (set old.priors (get_or slots k 0) prior_now)
          priors_more = priors_by slot_of_prior.once

        looked_is : (kind : Kind) (size : Size) (c : ℕ) → c < k → IsCellOf (width_of size)
            (node_at nodes c) → HasSlot spelled k (View kind size c) (get_or slots k 0)
            → looked_in kind old (mask_of size) (get_or slots k 0) (get_or slots c 0) c
            ≡ looked_at kind (cell_number start (cell_there (spelled_at spelled c))) (masked_by
            (mask_of size) (cell_number start (cell_there (spelled_at spelled c)))) (start.prior
            (record { cell = cell_there (spelled_at spelled c); mask = mask_of size })) here
        looked_is Mem size c below is has = number_there (width_of size) c below is
        looked_is Delta size c below is has = earlier_there (width_of size) c below is
        looked_is Prior size c below is has = prior_is size c below is has
        looked_is Bcd size c below is has = number_there (width_of size) c below is
        looked_is Inverted size c below is has = number_there (width_of size) c below is

        value_is : (node : Node) → NamesBelow k node → MayFollow nodes node
            → HasSlot spelled k node (get_or slots k 0) → value_after node old image slots k
            ≡ spelled_value start here (spelled_with spelled node)
        value_is (Const n) below may has = refl
        value_is (CellNode width pointer offset) below may has =
            ap (λ v. raw width image (moved_by offset v)) (value_there pointer below may.1)
        value_is (View kind size c) below may has =
            ap (λ n. transformed kind size (view_of size n)) (looked_is kind size c below may.1 has)
            ∙ sym (view_value start image history kind size (spelled_at spelled c)
            (cell_at_cell nodes pool (width_of size) c may.0 may.1))
        value_is (Arith op left right) below may has =
            ap₂ (computed op) (value_there left below.0 may.1) (value_there right below.1 may.3)

        module _ (new : NumbersSeen) where
          either : (a b : ℕ) → (a ≡ b → ⊥) ⊎ (a ≡ b)
          either a b = elim (cases_eq a b) [ inl same ↦ inr same | inr other ↦ inl other ]

          values_by : (v : ℕ) → new.values ≡ set old.values k v → v
              ≡ spelled_value start here (spelled_at spelled k) → (n : ℕ) → n < suc k → (n ≡ k → ⊥)
              ⊎ (n ≡ k) → get_or new.values n 0 ≡ spelled_value start here (spelled_at spelled n)
          values_by v grown is n below (inl other) =
              ap (λ vs. get_or vs n 0) grown ∙ get_or-set_other old.values k n v 0 other
              ∙ passed.values n (omega (arith, other))
          values_by v grown is n below (inr last) =
              ap (λ vs. get_or vs n 0) grown
              ∙ ap (λ i. get_or (set old.values k v) i 0) last
              ∙ get_or-set_same old.values k v 0 (omega (arith, sized.values, within))
              ∙ is ∙ ap (λ i. spelled_value start here (spelled_at spelled i)) (sym last)

          -- the numbers of a node that is no cell and no prior view
          plain : cell_count nodes (suc k) ≡ cell_count nodes k → tracked_count nodes (suc k)
              ≡ tracked_count nodes k → new.cells ≡ old.cells → new.earlier ≡ old.earlier
              → new.watches.places ≡ old.watches.places → new.priors ≡ old.priors
              → ((n : ℕ) → n < suc k → get_or new.values n 0 ≡ spelled_value start here
              (spelled_at spelled n)) → IsPassed nodes start history image (suc k) new
          plain cells tracked same_cells same_earlier same_places same_priors values = record {
            cells = subst (λ j. IsHalfway (numbers_after nodes start history)
                (numbers_after nodes start here) j new.cells) (sym cells)
                (subst (IsHalfway (numbers_after nodes start history) (numbers_after nodes start
                here) (cell_count nodes k)) (sym same_cells) passed.cells);
            earlier = subst (λ j. IsDone (numbers_after nodes start history) j new.earlier)
                (sym cells) (subst (IsDone (numbers_after nodes start history) (cell_count nodes k))
                (sym same_earlier) passed.earlier);
            places = subst (λ j. IsDone (places_at nodes start here) j new.watches.places)
                (sym cells) (subst (IsDone (places_at nodes start here) (cell_count nodes k))
                (sym same_places) passed.places);
            priors = subst (λ j. IsHalfway (kept_priors nodes start history)
                (kept_priors nodes start here) j new.priors) (sym tracked)
                (subst (IsHalfway (kept_priors nodes start history) (kept_priors nodes start here)
                (tracked_count nodes k)) (sym same_priors) passed.priors);
            values = values;
          }

          -- the numbers of a prior view
          with_prior : cell_count nodes (suc k) ≡ cell_count nodes k → new.cells ≡ old.cells
              → new.earlier ≡ old.earlier → new.watches.places ≡ old.watches.places → IsHalfway
              (kept_priors nodes start history) (kept_priors nodes start here) (tracked_count nodes
              (suc k)) new.priors → ((n : ℕ) → n < suc k → get_or new.values n 0 ≡ spelled_value
              start here (spelled_at spelled n)) → IsPassed nodes start history image (suc k) new
          with_prior cells same_cells same_earlier same_places priors values = record {
            cells = subst (λ j. IsHalfway (numbers_after nodes start history)
                (numbers_after nodes start here) j new.cells) (sym cells)
                (subst (IsHalfway (numbers_after nodes start history) (numbers_after nodes start
                here) (cell_count nodes k)) (sym same_cells) passed.cells);
            earlier = subst (λ j. IsDone (numbers_after nodes start history) j new.earlier)
                (sym cells) (subst (IsDone (numbers_after nodes start history) (cell_count nodes k))
                (sym same_earlier) passed.earlier);
            places = subst (λ j. IsDone (places_at nodes start here) j new.watches.places)
                (sym cells) (subst (IsDone (places_at nodes start here) (cell_count nodes k))
                (sym same_places) passed.places);
            priors = priors;
            values = values;
          }

          -- the numbers of a cell
          module _ (pointer offset width : ℕ) (same : node_at nodes k ≡ CellNode width pointer
              offset) (below : pointer < k) (valued : IsValued (node_at nodes pointer)) where
            abbrev cell : Cell
            cell = record { pointer = tree_in (spelled_at spelled pointer); address = offset; width = width }

            abbrev slot : ℕ
            slot = get_or slots k 0

            facts : (slot ≡ cell_count nodes k) × (cell_count nodes (suc k)
                ≡ suc (cell_count nodes k)) × (get_or (cells_of nodes) slot no_cell ≡ cell)
            facts = cell_node_slot pointer offset width same

            inside_cells : slot < length (cells_of nodes)
            inside_cells = (cell_slot width k within (subst (IsCellOf width) (sym same) refl)).within

            of_cell : (f : Cell → ℕ) → f cell ≡ get_or (map f (cells_of nodes)) slot 0
            of_cell f = sym (get_or-map f (cells_of nodes) slot no_cell 0 inside_cells ∙ ap f facts.2)

            next : suc slot ≡ cell_count nodes (suc k)
            next = ap suc facts.0 ∙ sym facts.1

            number : number_in old image pointer offset width ≡ get_or (numbers_after nodes start here) slot 0
            number = ap (λ v. raw width image (moved_by offset v))
                (value_there pointer below valued) ∙ of_cell (λ c. cell_number start c here)

            place : place_in old pointer offset ≡ get_or (places_at nodes start here) slot 0
            place = ap (moved_by offset) (value_there pointer below valued) ∙ of_cell (λ c. cell_place start c here)

            number_before : get_or old.cells slot 0 ≡ get_or (numbers_after nodes start history) slot 0
            number_before = passed.cells.left slot (omega (arith, facts.0))

            cells_done : IsHalfway (numbers_after nodes start history)
                (numbers_after nodes start here) (cell_count nodes (suc k))
                (set old.cells slot (number_in old image pointer offset width))
            cells_done =
                subst (λ j. IsHalfway (numbers_after nodes start history) (numbers_after nodes start
                here) j (set old.cells slot (number_in old image pointer offset width))) next
                (halfway_more (numbers_after nodes start here) slot old.cells
                (number_in old image pointer offset width) (numbers_after nodes start history)
                (omega (arith, inside_cells, sized.cells)) number
                (subst (λ j. IsHalfway (numbers_after nodes start history)
                (numbers_after nodes start here) j old.cells) (sym facts.0) passed.cells))

            earlier_done : IsDone (numbers_after nodes start history) (cell_count nodes (suc k))
                (set old.earlier slot (get_or old.cells slot 0))
            earlier_done =
                subst (λ j. IsDone (numbers_after nodes start history) j
                (set old.earlier slot (get_or old.cells slot 0))) next
                (done_more (numbers_after nodes start history) slot old.earlier
                (get_or old.cells slot 0) (omega (arith, inside_cells, sized.earlier)) number_before
                (subst (λ j. IsDone (numbers_after nodes start history) j old.earlier)
                (sym facts.0) passed.earlier))

            places_done : IsDone (places_at nodes start here) (cell_count nodes (suc k))
                (set old.watches.places slot (place_in old pointer offset))
            places_done =
                subst (λ j. IsDone (places_at nodes start here) j
                (set old.watches.places slot (place_in old pointer offset))) next
                (done_more (places_at nodes start here) slot old.watches.places
                (place_in old pointer offset) (omega (arith, inside_cells, sized.places)) place
                (subst (λ j. IsDone (places_at nodes start here) j old.watches.places)
                (sym facts.0) passed.places))

            with_cell_node : tracked_count nodes (suc k) ≡ tracked_count nodes k → new.cells
                ≡ set old.cells slot (number_in old image pointer offset width) → new.earlier
                ≡ set old.earlier slot (get_or old.cells slot 0) → new.watches.places
                ≡ set old.watches.places slot (place_in old pointer offset) → new.priors
                ≡ old.priors → ((n : ℕ) → n < suc k → get_or new.values n 0 ≡ spelled_value start
                here (spelled_at spelled n)) → IsPassed nodes start history image (suc k) new
            with_cell_node tracked cells earlier places priors values = record {
              cells = subst (IsHalfway (numbers_after nodes start history) (numbers_after nodes
                  start here) (cell_count nodes (suc k))) (sym cells) cells_done;
              earlier = subst (IsDone (numbers_after nodes start history)
                  (cell_count nodes (suc k))) (sym earlier) earlier_done;
              places = subst (IsDone (places_at nodes start here) (cell_count nodes (suc k))) (sym places) places_done;
              priors = subst (λ j. IsHalfway (kept_priors nodes start history)
                  (kept_priors nodes start here) j new.priors) (sym tracked)
                  (subst (IsHalfway (kept_priors nodes start history) (kept_priors nodes start here)
                  (tracked_count nodes k)) (sym priors) passed.priors);
              values = values;
            }

          passed_by : (node : Node) → node_at nodes k ≡ node → spelled_at spelled k
              ≡ spelled_with spelled node → NamesBelow k node → MayFollow nodes node
              → HasSlot spelled k node (get_or slots k 0) → TakesNode node slots image k old new
              → ((n : ℕ) → n < suc k → get_or new.values n 0 ≡ spelled_value start here
              (spelled_at spelled n)) → IsPassed nodes start history image (suc k) new
          passed_by (Const n) same is below may has takes values =
              plain (counts_same _ is refl) (tracked_counts_same _ is refl) takes.cells
              takes.earlier takes.places takes.priors values
          passed_by (CellNode width pointer offset) same is below may has takes values =
              with_cell_node pointer offset width same below may.1 (tracked_counts_same _ is refl)
              takes.cells takes.earlier takes.places takes.priors values
          passed_by (View Prior size c) same is below may has takes values =
              with_prior (counts_same _ is refl) takes.cells takes.earlier takes.places
              (subst (IsHalfway (kept_priors nodes start history) (kept_priors nodes start here)
              (tracked_count nodes (suc k))) (sym takes.priors)
              (priors_more size c below may.1 has)) values
          passed_by (View Mem size c) same is below may has takes values =
              plain (counts_same _ is refl) (tracked_counts_same _ is (none_tracked Mem size
              (spelled_at spelled c) refl)) takes.cells takes.earlier takes.places takes.priors
              values
          passed_by (View Delta size c) same is below may has takes values =
              plain (counts_same _ is refl) (tracked_counts_same _ is (none_tracked Delta size
              (spelled_at spelled c) refl)) takes.cells takes.earlier takes.places takes.priors
              values
          passed_by (View Bcd size c) same is below may has takes values =
              plain (counts_same _ is refl) (tracked_counts_same _ is (none_tracked Bcd size
              (spelled_at spelled c) refl)) takes.cells takes.earlier takes.places takes.priors
              values
          passed_by (View Inverted size c) same is below may has takes values =
              plain (counts_same _ is refl) (tracked_counts_same _ is (none_tracked Inverted size
              (spelled_at spelled c) refl)) takes.cells takes.earlier takes.places takes.priors
              values
          passed_by (Arith op left right) same is below may has takes values =
              plain (counts_same _ is refl) (tracked_counts_same _ is refl) takes.cells
              takes.earlier takes.places takes.priors values

          -- the node takes up the frame
          pub passed_more : (node : Node) → node ≡ node_at nodes k → TakesNode node slots image k
              old new → IsPassed nodes start history image (suc k) new
          passed_more node same takes =
              let is : spelled_at spelled k ≡ spelled_with spelled node =
              spelled_of nodes pool k within ∙ ap (spelled_with spelled) (sym same) in
              let below = subst (NamesBelow k) (sym same) names in
              let may = subst (MayFollow nodes) (sym same) (may_follow nodes pool k within) in
              let has = subst (λ x. HasSlot spelled k x (get_or slots k 0)) (sym same) (laid.each k within) in
              let value = value_is node below may has ∙ ap (spelled_value start here) (sym is) in
              passed_by node (sym same) is below may has takes
              (λ n early. values_by (value_after node old image slots k) takes.values value n early (either n k))
