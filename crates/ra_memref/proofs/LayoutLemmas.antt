-- What a layout has when so many nodes have taken their slots.
use Rattle.std.proofs.Common.{◌≡◌, ℕ, suc, ◌+◌, ◌<◌, ◌≤◌, List, [], ◌∷◌, ◌++◌, length, map, take, get_or, refl, ap, sym}
use Rattle.std.proofs.Common.{subst, ◌∙◌, ◌⊎◌, inl, inr, arith, length-append, slice_get, Some}
use Rattle.std.specs.List.{flat_map, Contains}
use Rattle.std.specs.Option.{option_map}
use Rattle.std.proofs.lemmas.List.{map-append, length-map, get_or-map, get_or_append_left}
use Rattle.std.proofs.lemmas.List.Elements.{Contains-get_or, Contains-push_cases}
use Rattle.std.proofs.lemmas.Option.{slice_get-map}
use Rattle.std.proofs.Math.Seq.{get_or-append_seam}
use Rattle.ra_operand.specs.declared.size.Size.{Size}
use Rattle.ra_operand.specs.declared.kind.Kind.TheVariants.{Mem, Delta, Prior, Bcd, Inverted}
use Rattle.ra_operand.specs.Views.{width_of, mask_of}
use Rattle.ra_indirect.specs.declared.node.Node.{Node}
use Rattle.ra_indirect.specs.declared.node.Node.TheVariants.{Const, Cell as CellNode, View, Arith}
use Rattle.ra_indirect.specs.Trees.{Cell, same_tracked, firsts}
use Rattle.ra_indirect.specs.Pools.{Spelled, IsTree, IsCell, spelled_at, spelled_with, spelled_by, cell_in, tracked_at}
use Rattle.ra_indirect.specs.Pools.{view_in, node_at, MayFollow, cells_of, tracked_of}
use Rattle.ra_indirect.specs.Interned.{Interns, IsPool}
use Rattle.ra_indirect.proofs.SameLemmas.{tracked_is, tracked_itself}
use Rattle.ra_indirect.proofs.FirstsLemmas.{Interns-firsts, found_more, fresh_more}
use Rattle.ra_indirect.proofs.PoolLemmas.{below_or_last}
use Rattle.ra_indirect.proofs.Spelling.{spelled_of, length-spelled_by}
use Rattle.ra_indirect.proofs.SpelledLemmas.{GivesCell, may_follow, cell_at_cell, all_alone}
use Rattle.ra_memref.specs.declared.layout.TrackedMask.{TrackedMask}
use Rattle.ra_memref.specs.Layout.{cells_before, tracked_before, tracked_there, HasSlot, TakesSlot, tracked_of_mask}
use Rattle.ra_memref.specs.Layout.{IsOfCell, AreMasks}
use Rattle.ra_memref.proofs.LaidLemmas.{cells_one, cells_same, tracked_same, tracked_more, prior_tracks, none_tracked}
use Rattle.ra_memref.proofs.LaidLemmas.{is_cell_there, cells_all, tracked_all}

-- what stands when the nodes below k have their slots
pub record IsLaying (nodes : List Node) (slots places : List ℕ) (masks : List TrackedMask) (k : ℕ) : Type 0 where
  pub as_many : length slots ≡ k
  pub each : (n : ℕ) → n < k → HasSlot (spelled_by nodes) n (node_at nodes n) (get_or slots n 0)
  pub placed : places ≡ map (λ c. c.address) (cells_before (spelled_by nodes) k)
  pub masked : tracked_before (spelled_by nodes) k ≡ map (tracked_of_mask nodes) masks
  pub few : length masks ≤ k
  pub few_cells : length places ≤ k
  pub of_cells : (m : TrackedMask) → Contains masks m → IsOfCell nodes m

module _ (nodes : List Node) (pool : IsPool nodes) where
  abbrev spelled : List Spelled
  spelled = spelled_by nodes

  -- equal tracked masks are kept as one
  mask_same : (m m' : TrackedMask) → IsOfCell nodes m → IsOfCell nodes m'
      → tracked_of_mask nodes m ≡ tracked_of_mask nodes m' → m ≡ m'
  mask_same m m' left right same =
      let cells : spelled_at spelled m.cell ≡ spelled_at spelled m'.cell = left.1
      ∙ ap (λ t. IsCell t.cell) same ∙ sym right.1 in
      let numbers : m.cell ≡ m'.cell = all_alone nodes pool m'.cell right.0 m.cell left.0 cells in
      (λ i. record { cell = numbers i; mask = (same i).mask })

  absent_too : (masks : List TrackedMask) (m : TrackedMask)
      → ((m' : TrackedMask) → Contains masks m' → IsOfCell nodes m') → IsOfCell nodes m
      → (Contains masks m → ⊥) → Contains (map (tracked_of_mask nodes) masks) (tracked_of_mask nodes m) → ⊥
  absent_too masks m valid is absent has =
      let within : has.0 < length masks = omega (arith, has.1, length-map masks (tracked_of_mask nodes)) in
      let there = get_or masks has.0 m in
      let same = sym (get_or-map (tracked_of_mask nodes) masks has.0 m (tracked_of_mask nodes m) within) ∙ has.2 in
      absent (
        has.0,
        within,
        mask_same (get_or masks has.0 m) m
            (valid (get_or masks has.0 m) (Contains-get_or masks has.0 m within)) is same,
      )

  -- what a node adds
  record Lays (places : List ℕ) (masks : List TrackedMask) (node : Node) (slot k : ℕ) : Type 0 where
    placed : places ≡ map (λ c. c.address) (cells_before spelled (suc k))
    masked : tracked_before spelled (suc k) ≡ map (tracked_of_mask nodes) masks
    few : length masks ≤ suc k
    of_cells : (m : TrackedMask) → Contains masks m → IsOfCell nodes m
    has : HasSlot spelled k node slot

  module _ (slots places places' : List ℕ) (masks masks' : List TrackedMask) (slot k : ℕ)
      (within : k < length nodes) (laying : IsLaying nodes slots places masks k) where
    inside : k < length spelled
    inside = omega (arith, length-spelled_by nodes)

    lays_nothing : (node : Node) (x : Spelled) → HasSlot spelled k node slot
        → spelled_at spelled k ≡ x → cell_in x ≡ [] → tracked_at x ≡ [] → places' ≡ places
        → masks' ≡ masks → Lays places' masks' node slot k
    lays_nothing node x has is cells tracked same_places same_masks = record {
      placed = same_places ∙ laying.placed ∙ ap (map (λ c. c.address)) (sym (cells_same spelled k x inside is cells));
      masked = tracked_same spelled k x inside is tracked ∙ laying.masked
          ∙ ap (map (tracked_of_mask nodes)) (sym same_masks);
      few = omega (arith, laying.few, ap length same_masks);
      of_cells = λ m there. laying.of_cells m (subst (λ ms. Contains ms m) same_masks there);
      has = has;
    }

    lays_cell : (c : Cell) (node : Node) → HasSlot spelled k node slot
        → spelled_at spelled k ≡ IsCell c → places' ≡ places ++ c.address ∷ [] → masks' ≡ masks
        → Lays places' masks' node slot k
    lays_cell c node has is more same_masks = record {
      placed = more ∙ ap (λ ps. ps ++ c.address ∷ []) laying.placed
          ∙ sym (map-append (λ d. d.address) (cells_before spelled k) (c ∷ []))
          ∙ ap (map (λ d. d.address)) (sym (cells_one spelled k c inside is));
      masked = tracked_same spelled k (IsCell c) inside is refl ∙ laying.masked
          ∙ ap (map (tracked_of_mask nodes)) (sym same_masks);
      few = omega (arith, laying.few, ap length same_masks);
      of_cells = λ m there. laying.of_cells m (subst (λ ms. Contains ms m) same_masks there);
      has = has;
    }

    module _ (size : Size) (c : ℕ) (below : c < length nodes)
        (gives : GivesCell (width_of size) (spelled_at spelled c))
        (is : spelled_at spelled k ≡ IsTree (view_in Prior size (spelled_at spelled c)))
        (same_places : places' ≡ places) where
      abbrev mask : TrackedMask
      mask = record { cell = c; mask = mask_of size }

      of_cell : IsOfCell nodes mask
      of_cell = (below, is_cell_there (width_of size) (spelled_at spelled c) gives)

      more : tracked_before spelled (suc k) ≡ firsts same_tracked
          (flat_map tracked_at (take k spelled) ++ tracked_there spelled size c ∷ [])
      more = tracked_more spelled k (IsTree (view_in Prior size (spelled_at spelled c)))
          (tracked_there spelled size c) inside is (prior_tracks size (spelled_at spelled c) gives)

      still_placed : places' ≡ map (λ d. d.address) (cells_before spelled (suc k))
      still_placed =
          same_places ∙ laying.placed
          ∙ ap (map (λ d. d.address)) (sym (cells_same spelled k
          (IsTree (view_in Prior size (spelled_at spelled c))) inside is refl))

      lays_prior : Interns masks masks' mask slot → Lays places' masks' (View Prior size c) slot k
      lays_prior (inl found) =
          let stands : slice_get (tracked_before spelled k) slot ≡ Some
          (tracked_there spelled size c) = ap (λ ts. slice_get ts slot) laying.masked
          ∙ slice_get-map (tracked_of_mask nodes) masks slot
          ∙ ap (option_map (tracked_of_mask nodes)) found.stands in
          record {
            placed = still_placed;
            masked = more ∙ found_more same_tracked tracked_is tracked_itself
                (flat_map tracked_at (take k spelled)) (tracked_there spelled size c) slot stands
                ∙ laying.masked ∙ ap (map (tracked_of_mask nodes)) (sym found.same);
            few = omega (arith, laying.few, ap length found.same);
            of_cells = λ m there. laying.of_cells m (subst (λ ms. Contains ms m) found.same there);
            has = subst (λ ts. Interns (tracked_before spelled k) ts
                (tracked_there spelled size c) slot) (sym more)
                (Interns-firsts same_tracked tracked_is tracked_itself
                (flat_map tracked_at (take k spelled)) (tracked_there spelled size c) slot (inl stands));
          }
      lays_prior (inr fresh) =
          let absent : Contains (tracked_before spelled k) (tracked_there spelled size c)
          → ⊥ = λ there. absent_too masks mask laying.of_cells of_cell fresh.absent
          (subst (λ ts. Contains ts (tracked_there spelled size c)) laying.masked there) in
          let last : slot ≡ length (tracked_before spelled k) = fresh.last
          ∙ sym (ap length laying.masked ∙ length-map masks (tracked_of_mask nodes)) in
          let either : (m : TrackedMask) → (Contains masks m) ⊎ (mask ≡ m)
          → IsOfCell nodes m = λ m there. elim there [
            | inl old ↦ laying.of_cells m old
            | inr
                here ↦ subst (IsOfCell nodes) here of_cell
          ] in
          record {
            placed = still_placed;
            masked = more ∙ fresh_more same_tracked tracked_is tracked_itself
                (flat_map tracked_at (take k spelled)) (tracked_there spelled size c) absent
                ∙ ap (λ ts. ts ++ tracked_there spelled size c ∷ []) laying.masked
                ∙ sym (map-append (tracked_of_mask nodes) masks (mask ∷ []))
                ∙ ap (map (tracked_of_mask nodes)) (sym fresh.grown);
            few = omega (arith, laying.few, ap length fresh.grown, length-append masks (mask ∷ []));
            of_cells = λ m there. either m (Contains-push_cases masks mask m
                (subst (λ ms. Contains ms m) fresh.grown there));
            has = subst (λ ts. Interns (tracked_before spelled k) ts
                (tracked_there spelled size c) slot) (sym more)
                (Interns-firsts same_tracked tracked_is tracked_itself
                (flat_map tracked_at (take k spelled)) (tracked_there spelled size c) slot (inr (absent, last)));
          }

    lays : (node : Node) → MayFollow nodes node → spelled_at spelled k ≡ spelled_with spelled node
        → TakesSlot node places places' masks masks' slot → Lays places' masks' node slot k
    lays (Const n) may is takes = lays_nothing (Const n)
        (spelled_with spelled (Const n)) tt is refl refl takes.0 takes.1
    lays (CellNode width pointer offset) may is takes =
        lays_cell _ (CellNode width pointer offset) (takes.0 ∙ ap length laying.placed
        ∙ length-map (cells_before spelled k) (λ d. d.address)) is takes.1 takes.2
    lays (View Prior size c) may is takes =
        lays_prior size c may.0 (cell_at_cell nodes pool (width_of size) c may.0 may.1) is takes.0 takes.1
    lays (View Mem size c) may is takes = lays_nothing (View Mem size c) _ tt is refl
        (none_tracked Mem size (spelled_at spelled c) refl) takes.0 takes.1
    lays (View Delta size c) may is takes = lays_nothing (View Delta size c) _ tt is refl
        (none_tracked Delta size (spelled_at spelled c) refl) takes.0 takes.1
    lays (View Bcd size c) may is takes = lays_nothing (View Bcd size c) _ tt is refl
        (none_tracked Bcd size (spelled_at spelled c) refl) takes.0 takes.1
    lays (View Inverted size c) may is takes = lays_nothing (View Inverted size c) _ tt is refl
        (none_tracked Inverted size (spelled_at spelled c) refl) takes.0 takes.1
    lays (Arith op left right) may is takes = lays_nothing (Arith op left right)
        (spelled_with spelled (Arith op left right)) tt is refl refl takes.0 takes.1

    each_by : (node : Node) → node ≡ node_at nodes k → HasSlot spelled k node slot → (n : ℕ)
        → (n < k) ⊎ (n ≡ k) → HasSlot spelled n (node_at nodes n) (get_or (slots ++ slot ∷ []) n 0)
    each_by node same has n (inl below) =
        subst (HasSlot spelled n (node_at nodes n)) (sym
        (get_or_append_left slots (slot ∷ []) 0 n (omega (arith, laying.as_many)))) (laying.each n below)
    each_by node same has n (inr last) =
        let here : get_or (slots ++ slot ∷ []) n 0 ≡ slot = ap
        (λ i. get_or (slots ++ slot ∷ []) i 0) (last ∙ sym laying.as_many) ∙ get_or-append_seam slots slot [] 0 in
        subst (HasSlot spelled n (node_at nodes n)) (sym here)
        (subst (λ m. HasSlot spelled m (node_at nodes m) slot) (sym last)
        (subst (λ x. HasSlot spelled k x slot) same has))

    -- a node more has its slot
    pub laying_more : (node : Node) → node ≡ node_at nodes k
        → TakesSlot node places places' masks masks' slot → IsLaying nodes (slots ++ slot ∷ []) places' masks' (k + 1)
    laying_more node same takes =
        let may : MayFollow nodes node = subst (MayFollow nodes) (sym same) (may_follow nodes pool k within) in
        let is : spelled_at spelled k ≡ spelled_with spelled node = spelled_of nodes pool k within
        ∙ ap (spelled_with spelled) (sym same) in
        let one = lays node may is takes in
        let next : suc k ≡ k + 1 = omega arith in
        subst (IsLaying nodes (slots ++ slot ∷ []) places' masks') next
        (record {
          as_many = omega (arith, length-append slots (slot ∷ []), laying.as_many);
          each = λ n below. each_by node same one.has n (below_or_last n k (omega arith));
          placed = one.placed;
          masked = one.masked;
          few = one.few;
          few_cells = few_places node takes;
          of_cells = one.of_cells;
        })
      where
        few_places : (node : Node) → TakesSlot node places places' masks masks' slot → length places' ≤ suc k
        few_places (Const n) takes = omega (arith, laying.few_cells, ap length takes.0)
        few_places (CellNode width pointer offset) takes = omega
            (arith, laying.few_cells, ap length takes.1, length-append places (offset ∷ []))
        few_places (View Mem size c) takes = omega (arith, laying.few_cells, ap length takes.0)
        few_places (View Delta size c) takes = omega (arith, laying.few_cells, ap length takes.0)
        few_places (View Prior size c) takes = omega (arith, laying.few_cells, ap length takes.0)
        few_places (View Bcd size c) takes = omega (arith, laying.few_cells, ap length takes.0)
        few_places (View Inverted size c) takes = omega (arith, laying.few_cells, ap length takes.0)
        few_places (Arith op left right) takes = omega (arith, laying.few_cells, ap length takes.0)

  pub laid_places : (slots places : List ℕ) (masks : List TrackedMask)
      → IsLaying nodes slots places masks (length nodes) → places ≡ map (λ c. c.address) (cells_of nodes)
  laid_places slots places masks laying = laying.placed ∙ ap (map (λ c. c.address)) (cells_all nodes)

  pub laid_masks : (slots places : List ℕ) (masks : List TrackedMask)
      → IsLaying nodes slots places masks (length nodes) → AreMasks nodes masks
  laid_masks slots places masks laying = record {
    tracked = sym laying.masked ∙ tracked_all nodes;
    of_cells = laying.of_cells;
  }

-- there are as many as the pool tracks
pub as_many_masks : (nodes : List Node) (masks : List TrackedMask) → AreMasks nodes masks
    → length masks ≡ length (tracked_of nodes)
as_many_masks nodes masks are = sym (length-map masks (tracked_of_mask nodes)) ∙ ap length are.tracked
