-- What a runtime keeps after a restore is what the bytes say.
use Rattle.std.proofs.Common.{◌≡◌, ℕ, true, Option, List, [], ◌∷◌, refl, length, map, replicate, option_map}
use Rattle.std.proofs.Common.{slice_index_or, None, ◌∙◌, ap, ap₂, sym}
use Rattle.std.proofs.lemmas.List.{length-map}
use Rattle.ra_indirect.specs.Pools.{cells_of, tracked_of}
use Rattle.ra_memref.specs.Table.{TableSeen}
use Rattle.ra_set.specs.Contents.{SetContents}
use Rattle.ra_progress.specs.declared.said.Said.{Said}
use Rattle.ra_progress.specs.Contents.{KeptItem, plain_presence, KeptPresence}
use Rattle.ra_progress.specs.Layout.{frames_at}
use Rattle.ra_progress.specs.Room.{IsFilled, Says}
use Rattle.ra_progress.specs.Saying.{own_places, said_items, said_or, said_presence, script_place, says}
use Rattle.ra_memref.specs.Names.{cell_name, tracked_name}
use Rattle.ra_items.specs.declared.item_run.ItemRun.{ItemRun}
use Rattle.ra_display.specs.declared.presence_run.PresenceRun.{PresenceRun}
use Rattle.ra_meaning.specs.Earned.{is_earned, items_with, both_earned, earned_in, with_earned}
use Rattle.ra_meaning.specs.Order.{set_cells, set_tracked, item_shape, presence_shape, shape_of}
use Rattle.ra_items.specs.ItemRuns.{kept_run}
use Rattle.ra_items.specs.AllRuns.{AreItemRuns}
use Rattle.ra_runtime.specs.Laid.{IsOver, opening_by}
use Rattle.ra_display.specs.PresenceRuns.{IsOptionalPresence, optional_presence_kept}
use Rattle.ra_display.specs.PresenceBack.{PutsBackPresence}
use Rattle.ra_runtime.specs.Numbers.{TakesNumbers}
use Rattle.ra_items.specs.Restoring.{restored_item, restored_items}
use Rattle.ra_items.specs.Shapes.{run_shape}
use Rattle.ra_items.proofs.ShapeLemmas.{runs_shaped}
use Rattle.ra_runtime.proofs.LaidShapes.{presence_shaped}

-- what items keep after a restore is what the bytes say, earned where it was before, or is said to be
pub restored_are : (bytes : List ℕ) (runs : List ItemRun) (places : List (Option ℕ))
    → restored_items bytes runs places ≡ items_with
    (both_earned (map is_earned (map kept_run runs)) (map is_earned
    (said_items bytes (map run_shape runs) places))) (said_items bytes (map run_shape runs) places)
restored_are bytes [] places = refl
restored_are bytes (run ∷ runs) [] = refl
restored_are bytes (run ∷ runs) (place ∷ places) =
    ap (λ items. restored_item bytes run place ∷ items) (restored_are bytes runs places)

module _ (set : SetContents) (table after : TableSeen) (over : IsOver set table) (bytes : List ℕ)
    (said : Said) (room : IsFilled (shape_of set) said)
    (takes : TakesNumbers table after said.cells.items said.priors.items) where
  cells_many : length said.cells.items ≡ length (set_cells set)
  cells_many = room.cells ∙ length-map (set_cells set) cell_name

  pub over_restored : IsOver set after
  over_restored = record {
    cells = ap cells_of takes.pool.0 ∙ over.cells;
    tracked = ap tracked_of takes.pool.0 ∙ over.tracked;
    cells_many = ap length takes.cells_too ∙ cells_many;
    priors_many = ap length takes.priors_too ∙ room.priors ∙ length-map (set_tracked set) tracked_name;
  }

  pub marked_restored : after.marked ≡ replicate (length (set_cells set)) true
  marked_restored = takes.marked ∙ ap (λ m. replicate m true) cells_many

  pub kept_restored : (says_it : Says (shape_of set) bytes said) (runs : List ItemRun)
      (olds news : List KeptItem) (display new : Option PresenceRun) (shown : Option KeptPresence)
      → AreItemRuns table.nodes set.items runs → IsOptionalPresence table.nodes set.script display
      → map is_earned olds ≡ map is_earned (map kept_run runs) → news ≡ restored_items bytes runs said.places.items
      → (place : Option ℕ) → place ≡ slice_index_or said.places.items (length runs) None
      → PutsBackPresence bytes place display new → shown ≡ optional_presence_kept new
      → (count : ℕ) → count ≡ frames_at bytes → opening_by count after news shown
      ≡ with_earned (says (shape_of set) bytes)
      (both_earned (map is_earned olds) (earned_in (says (shape_of set) bytes)))
  kept_restored says_it runs olds news display new shown are is same_earned kept place there back seen count frames =
      let numbers = takes.cells_too ∙ says_it.cells in
      let priors = takes.priors_too ∙ says_it.priors in
      let shaped : map run_shape runs ≡ map item_shape set.items = runs_shaped table.nodes set.items runs are in
      let earned = map is_earned (map kept_run runs) in
      let said_too : said_items bytes (map run_shape runs) said.places.items
      ≡ said_items bytes (map item_shape set.items) (own_places (shape_of set) bytes) =
      ap₂ (said_items bytes) shaped says_it.places in
      let items : news ≡ items_with (both_earned (map is_earned olds)
      (map is_earned (said_items bytes (map item_shape set.items) (own_places (shape_of set)
      bytes)))) (said_items bytes (map item_shape set.items) (own_places (shape_of set) bytes)) =
      kept ∙ restored_are bytes runs said.places.items
      ∙ ap (λ items. items_with (both_earned earned (map is_earned items)) items) said_too
      ∙ ap (λ e. items_with (both_earned e (map is_earned
      (said_items bytes (map item_shape set.items) (own_places (shape_of set) bytes)))) (said_items
      bytes (map item_shape set.items) (own_places (shape_of set) bytes))) (sym same_earned)
      in
      let many : length runs ≡ length (map item_shape set.items) = sym (length-map runs run_shape) ∙ ap length shaped in
      let stands : place ≡ script_place (shape_of set) bytes =
      there ∙ ap₂ (λ places n. slice_index_or places n None) says_it.places many in
      let presence : shown ≡ option_map (λ p. said_or (said_presence bytes p) (plain_presence p)
      (script_place (shape_of set) bytes)) (option_map presence_shape set.script) =
      seen ∙ back.kept ∙ (λ i. option_map (λ p. said_or (said_presence bytes p) (plain_presence p)
      (stands i)) (presence_shaped table.nodes set.script display is i))
      in
      (λ i. record { frames = frames i; cells = numbers i; priors = priors i; items = items i; presence = presence i })
