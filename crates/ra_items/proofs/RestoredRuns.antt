-- All items, put back one after the other, each from the place of its block.
use Rattle.std.proofs.Common.{◌≡◌, ℕ, zero, suc, ◌+◌, ◌<◌, ◌≤◌, true, nat_lt, Option, None, Some, List, [], ◌∷◌, ◌++◌}
use Rattle.std.proofs.Common.{length, map, take, drop, get_or, set, slice_index, slice_index_or, refl, sym, ◌∙◌, ap}
use Rattle.std.proofs.Common.{ap₂, subst, arith, add-one, append_assoc}
use Rattle.std.proofs.lemmas.Bool.{ltb-true}
use Rattle.std.proofs.Math.Seq.{drop-cons}
use Rattle.std.proofs.lemmas.List.{map-append, take_more_set, get_or-drop, get_or-map, get_or_default}
use Rattle.ra_indirect.specs.declared.node.Node.{Node}
use Rattle.ra_set.specs.Contents.{ItemContents}
use Rattle.ra_text.specs.Words.{word_at}
use Rattle.ra_progress.specs.declared.shape.ItemShape.{ItemShape}
use Rattle.ra_progress.specs.declared.shape.PresenceShape.{PresenceShape}
use Rattle.ra_progress.specs.Contents.{ShapeContents, OfItem, OfPresence, EntryShape, own_entries, own_at}
use Rattle.ra_progress.specs.Layout.{version_in, block_length}
use Rattle.ra_progress.specs.Names.{IsPaired}
use Rattle.ra_progress.specs.Reading.{is_state, bad_state, IsAccepted}
use Rattle.ra_progress.specs.Saying.{own_places}
use Rattle.ra_progress.proofs.Owns.{own_count, own_item, own_script, script_count}
use Rattle.ra_progress.proofs.Placed.{own_within, placed}
use Rattle.ra_progress.proofs.SaysOpening.{passes}
use Rattle.ra_items.specs.declared.item_run.ItemRun.{ItemRun}
use Rattle.ra_items.specs.ItemRuns.{IsItemRun, kept_run}
use Rattle.ra_items.specs.AllRuns.{AreItemRuns}
use Rattle.ra_items.specs.Shapes.{run_shape}
use Rattle.ra_items.specs.Restoring.{HasItem, PutsBackItem, restored_item, restored_items}
use Rattle.ra_display.specs.PresenceBack.{HasDisplay}
use Rattle.ra_items.proofs.RunsLemmas.{rest_more}

-- what follows the same is the same
pub rest_at : (runs olds : List ItemRun) (k : ℕ) (d : ItemRun) → drop k runs ≡ drop k olds
    → get_or runs k d ≡ get_or olds k d
rest_at runs olds k d rest =
    let here : k ≡ k + 0 = omega arith in
    ap (λ n. get_or runs n d) here ∙ sym (get_or-drop k runs 0 d) ∙ ap (λ xs. get_or xs 0 d) rest
    ∙ get_or-drop k olds 0 d ∙ ap (λ n. get_or olds n d) (sym here)

-- the run at a place is changed, and has what the one before it had
runs_set : (nodes : List Node) (items : List ItemContents) (runs : List ItemRun) (k : ℕ)
    (d new : ItemRun) → k < length runs → ((item : ItemContents)
    → IsItemRun nodes item (get_or runs k d) → IsItemRun nodes item new)
    → AreItemRuns nodes items runs → AreItemRuns nodes items (set runs k new)
runs_set nodes [] [] k d new within stays are = absurd (omega arith)
runs_set nodes [] (run ∷ runs) k d new within stays are = absurd are
runs_set nodes (item ∷ items) [] k d new within stays are = absurd are
runs_set nodes (item ∷ items) (run ∷ runs) zero d new within stays are = (stays item are.0, are.1)
runs_set nodes (item ∷ items) (run ∷ runs) (suc k) d new within stays are =
    (are.0, runs_set nodes items runs k d new (omega arith) stays are.1)

-- one item is put back, behind those before it
module _ (bytes : List ℕ) (places : List (Option ℕ)) (k : ℕ) (olds runs : List ItemRun)
    (d : ItemRun) (within : k < length olds) (within_runs : k < length runs)
    (placed : k < length places) (rest : drop k runs ≡ drop k olds) where
  abbrev run : ItemRun
  run = get_or runs k d

  old_is : run ≡ get_or olds k run
  old_is = rest_at runs olds k d rest ∙ get_or_default olds k d run within

  -- the block of the item fits it
  pub item_has : ((j : ℕ) (shape : ItemShape) → j < length olds
      → HasItem bytes (slice_index_or places j None) (get_or (map run_shape olds) j shape)) → (place
      : Option ℕ) → place ≡ slice_index_or places k None → HasItem bytes place (run_shape run)
  item_has blocks place is =
      let shape : get_or (map run_shape olds) k (run_shape run) ≡ run_shape run =
      get_or-map run_shape olds k run (run_shape run) within ∙ ap run_shape (sym old_is) in
      subst (λ p. HasItem bytes p (run_shape run)) (sym is)
      (subst (HasItem bytes (slice_index_or places k None)) shape (blocks k (run_shape run) within))

  module _ (new : ItemRun) (place : Option ℕ) (is : place ≡ slice_index_or places k None)
      (back : PutsBackItem bytes place run new) where
    pub kept_next : map kept_run (take k runs) ++ restored_items bytes (drop k olds) (drop k places)
        ≡ restored_items bytes olds places
        → map kept_run (take (k + 1) (set runs k new)) ++ restored_items bytes (drop (k + 1) olds)
        (drop (k + 1) places) ≡ restored_items bytes olds places
    kept_next kept =
        let later = restored_items bytes (drop (k + 1) olds) (drop (k + 1) places) in
        let olds_next : drop k olds ≡ run ∷ drop (k + 1) olds =
        drop-cons olds k run within ∙ ap₂ (λ x n. x ∷ drop n olds) (sym old_is) (sym (add-one k)) in
        let places_next : drop k places ≡ slice_index_or places k None ∷ drop (k + 1) places =
        drop-cons places k None placed
        ∙ ap (λ n. slice_index_or places k None ∷ drop n places) (sym (add-one k)) in
        ap (λ xs. map kept_run xs ++ later) (take_more_set runs k new within_runs)
        ∙ ap (λ xs. xs ++ later) (map-append kept_run (take k runs) (new ∷ []))
        ∙ append_assoc (map kept_run (take k runs)) (kept_run new ∷ []) later
        ∙ ap (λ x. map kept_run (take k runs) ++ (x ∷ later)) (back.kept ∙ ap (restored_item bytes run) is)
        ∙ sym (ap₂ (λ (rs : List ItemRun) (ps : List (Option ℕ)). map kept_run (take k runs)
        ++ restored_items bytes rs ps) olds_next places_next)
        ∙ kept

    pub runs_next : (nodes : List Node) (items : List ItemContents) → AreItemRuns nodes items runs
        → AreItemRuns nodes items (set runs k new)
    runs_next nodes items are = runs_set nodes items runs k d new within_runs (back.run nodes) are

    pub rest_next : drop (k + 1) (set runs k new) ≡ drop (k + 1) olds
    rest_next = rest_more runs olds k d new within_runs within rest

-- where a place holds a block, what holds of the block holds there
at_place : (P : Option ℕ → Type 0) (place : Option ℕ) → (place ≡ None → P None)
    → ((at : ℕ) → place ≡ Some at → P (Some at)) → P place
at_place P None none some = none refl
at_place P (Some at) none some = some at refl

-- accepted bytes have a block of each item and of the display, or none
module _ (shape : ShapeContents) (bytes : List ℕ) (paired : IsPaired shape) (accepted : IsAccepted shape bytes) where
  within_file : 4 < length bytes
  within_file = omega (arith, accepted.whole.fewest)

  -- the block of an own entry whose shape is told
  module _ (n at : ℕ) (less : n < length (own_entries shape))
      (is : slice_index_or (own_places shape bytes) n None ≡ Some at) (entry : EntryShape)
      (same : (own_at (own_entries shape) n).shape ≡ entry) where
    block_fits : at + block_length entry ≤ length bytes
    block_fits =
        let long = own_within shape bytes n at accepted less is in omega (arith, long, ap block_length same)

    block_good : bad_state bytes (record { at = at; shape = entry }) ≡ None
    block_good =
        subst (λ e. bad_state bytes (record { at = at; shape = e }) ≡ None) same
        (placed (λ block. bad_state bytes block ≡ None) shape bytes n at accepted.states less is)

  item_state : (s : ItemShape) (at : ℕ) → bad_state bytes (record { at = at; shape = OfItem s })
      ≡ None → is_state (version_in bytes) s (slice_index bytes at) ≡ true
  item_state s at good = passes (is_state (version_in bytes) s (slice_index bytes at)) _ good

  pub items_have : (n : ℕ) (d : ItemShape) → n < length shape.items
      → HasItem bytes (slice_index_or (own_places shape bytes) n None) (get_or shape.items n d)
  items_have n d below =
      let item = get_or shape.items n d in
      let less : n < length (own_entries shape) = omega (arith, below, own_count shape paired) in
      let same = own_item shape paired n d below in
      at_place (λ place. HasItem bytes place item) (slice_index_or (own_places shape bytes) n None) (λ none. tt)
      (λ at is. (
        (within_file, block_fits n at less is (OfItem item) same),
        item_state item at (block_good n at less is (OfItem item) same),
      ))

  pub display_has : (p : PresenceShape) → shape.presence ≡ Some p → 0 < p.lines
      → HasDisplay bytes (slice_index_or (own_places shape bytes) (length shape.items) None) p
  display_has p some lines =
      let n = length shape.items in
      let less : n < length (own_entries shape) = omega (arith, own_count shape paired, ap script_count some) in
      let same = own_script shape paired p some in
      at_place (λ place. HasDisplay bytes place p) (slice_index_or (own_places shape bytes) n None) (λ none. lines)
      (λ at is. (
        (within_file, block_fits n at less is (OfPresence p) same),
        ltb-true (word_at bytes at) p.lines (passes (nat_lt (word_at bytes at) p.lines) _
            (block_good n at less is (OfPresence p) same)),
      ))
