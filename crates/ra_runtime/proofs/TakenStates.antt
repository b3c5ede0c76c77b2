-- What a course keeps after a kept state is taken up, and that this is as after a restore.
use Rattle.std.proofs.Common.{◌≡◌, ℕ, true, Bool, Option, List, [], ◌∷◌, refl, length, map, replicate, option_map, ◌∙◌}
use Rattle.std.proofs.Common.{ap, ap₂, sym}
use Rattle.std.proofs.lemmas.List.{length-map}
use Rattle.ra_indirect.specs.Pools.{cells_of, tracked_of}
use Rattle.ra_memory.specs.Image.{History}
use Rattle.ra_memref.specs.Table.{TableSeen}
use Rattle.ra_memref.specs.Names.{cell_name, tracked_name}
use Rattle.ra_set.specs.Contents.{SetContents}
use Rattle.ra_progress.specs.Contents.{KeptItem, OfAchievement, OfBoard, KeptPresence, Opening, IsOpening}
use Rattle.ra_progress.specs.Contents.{plain_presence}
use Rattle.ra_progress.specs.Laws.{IsShape}
use Rattle.ra_progress.specs.Saying.{said_items, said_or, said_presence, says}
use Rattle.ra_progress.specs.Spelling.{progress_bytes}
use Rattle.ra_progress.proofs.ComesBack.{comes_back}
use Rattle.ra_items.specs.declared.item_run.ItemRun.{ItemRun}
use Rattle.ra_items.specs.AllRuns.{AreItemRuns}
use Rattle.ra_items.specs.ItemRuns.{kept_run}
use Rattle.ra_items.specs.Restoring.{restored_items}
use Rattle.ra_items.specs.Shapes.{run_shape}
use Rattle.ra_items.proofs.ShapeLemmas.{runs_shaped}
use Rattle.ra_display.specs.declared.presence_run.PresenceRun.{PresenceRun}
use Rattle.ra_display.specs.PresenceBack.{PutsBackPresence}
use Rattle.ra_display.specs.PresenceRuns.{IsOptionalPresence, optional_presence_kept}
use Rattle.ra_meaning.specs.Earned.{Earned, both_earned, earned_in, is_earned, item_with, items_with, with_earned}
use Rattle.ra_meaning.specs.Openings.{snapshot}
use Rattle.ra_meaning.specs.Order.{set_cells, set_tracked, shape_of}
use Rattle.ra_meaning.specs.Runtime.{StandsAfter, TakesUp}
use Rattle.ra_runtime.specs.Courses.{CourseSeen, over}
use Rattle.ra_runtime.specs.Keeping.{AreLent, IsKeptFor, KeptSeen, Takes, TakesAsRestored}
use Rattle.ra_runtime.specs.Laid.{IsOver, opening_by}
use Rattle.ra_runtime.specs.Numbers.{TakesNumbers}
use Rattle.ra_runtime.proofs.LaidShapes.{presence_shaped}
use Rattle.ra_runtime.proofs.TakenUp.{restored_are}

-- a state of the set has as many numbers as a table over it
pub many_kept : {set : SetContents} (table : TableSeen) {kept : KeptSeen} → IsOver set table
    → IsKeptFor (shape_of set) kept
    → (length kept.opening.cells ≡ length table.cells) × (length kept.opening.priors ≡ length table.priors)
many_kept {set} table over for_it = (
  for_it.cells ∙ length-map (set_cells set) cell_name ∙ sym over.cells_many,
  for_it.priors ∙ length-map (set_tracked set) tracked_name ∙ sym over.priors_many,
)

module _ (set : SetContents) (table after : TableSeen) (is_over : IsOver set table)
    (kept : KeptSeen) (for_it : IsKeptFor (shape_of set) kept)
    (takes : TakesNumbers table after kept.opening.cells kept.opening.priors) where
  cells_many : length kept.opening.cells ≡ length (set_cells set)
  cells_many = for_it.cells ∙ length-map (set_cells set) cell_name

  pub over_taken : IsOver set after
  over_taken = record {
    cells = ap cells_of takes.pool.0 ∙ is_over.cells;
    tracked = ap tracked_of takes.pool.0 ∙ is_over.tracked;
    cells_many = ap length takes.cells_too ∙ cells_many;
    priors_many = ap length takes.priors_too ∙ for_it.priors ∙ length-map (set_tracked set) tracked_name;
  }

  pub marked_taken : after.marked ≡ replicate (length (set_cells set)) true
  marked_taken = takes.marked ∙ ap (λ m. replicate m true) cells_many

  pub kept_taken : (bytes : List ℕ) (places : List (Option ℕ)) (place : Option ℕ)
      → AreLent kept bytes places place → (runs : List ItemRun) (olds news : List KeptItem)
      (display new : Option PresenceRun) (shown : Option KeptPresence)
      → AreItemRuns table.nodes set.items runs → IsOptionalPresence table.nodes set.script display
      → map is_earned olds ≡ map is_earned (map kept_run runs)
      → news ≡ restored_items bytes runs places → PutsBackPresence bytes place display new
      → shown ≡ optional_presence_kept new
      → (count : ℕ) → count ≡ kept.opening.frames → opening_by count after news shown ≡ with_earned
      kept.opening (both_earned (map is_earned olds) (earned_in kept.opening))
  kept_taken bytes places place lent runs olds news display new shown are is same_earned put back seen count frames =
      let shaped : map run_shape runs ≡ kept.items = runs_shaped table.nodes set.items runs are ∙ sym for_it.items in
      let earned = map is_earned (map kept_run runs) in
      let said : said_items bytes (map run_shape runs) places ≡ kept.opening.items = ap
      (λ ss. said_items bytes ss places) shaped ∙ lent.said in
      let items : news ≡ items_with (both_earned (map is_earned olds) (earned_in kept.opening)) kept.opening.items =
      put ∙ restored_are bytes runs places ∙ ap (λ xs. items_with
      (both_earned earned (map is_earned xs)) xs) said
      ∙ ap (λ e. items_with (both_earned e (earned_in kept.opening)) kept.opening.items) (sym same_earned) in
      let presence : shown ≡ kept.opening.presence =
      seen ∙ back.kept ∙ ap (option_map (λ p. said_or (said_presence bytes p)
      (plain_presence p) place)) (presence_shaped table.nodes set.script display is
      ∙ sym for_it.presence) ∙ lent.shown in
      (λ i. record {
        frames = frames i;
        cells = takes.cells_too i;
        priors =
            takes.priors_too i;
        items = items i;
        presence = presence i;
      })

-- an item that is earned or not, twice
item_again : (e f : Bool) (item : KeptItem) → item_with f (item_with e item) ≡ item_with
    (is_earned (item_with f (item_with e item))) item
item_again e f (OfAchievement state measured hits old) = refl
item_again e f (OfBoard state hits numbers) = refl

items_again : (e f : Earned) (items : List KeptItem)
    → items_with f (items_with e items) ≡ items_with (map is_earned (items_with f (items_with e items))) items
items_again [] [] [] = refl
items_again [] [] (item ∷ items) = refl
items_again [] (f ∷ fs) [] = refl
items_again [] (f ∷ fs) (item ∷ items) = refl
items_again (e ∷ es) [] [] = refl
items_again (e ∷ es) [] (item ∷ items) = refl
items_again (e ∷ es) (f ∷ fs) [] = refl
items_again (e ∷ es) (f ∷ fs) (item ∷ items) = ap₂ (λ x xs. x ∷ xs) (item_again e f item) (items_again es fs items)

-- an opening that stands after a history, but for what is earned, stands so whatever is earned
opening_again : (o kept : Opening) (e f : Earned) → kept ≡ with_earned o e
    → with_earned kept f ≡ with_earned o (earned_in (with_earned kept f))
opening_again o kept e f is =
    ap (λ k. with_earned k f) is ∙ ap (λ xs. record o { items = xs }) (items_again e f o.items)
    ∙ sym (ap (λ k. with_earned o (earned_in (with_earned k f))) is)

taken_stands : (set : SetContents) (at old new : CourseSeen) → at.set ≡ set → old.set ≡ set
    → Takes old new at.kept → (o : Opening) (history : History) (image now : List ℕ)
    → StandsAfter (over at image) o history → StandsAfter (over new now) o history
taken_stands set at old new same same_too takes o history image now stands =
    let mine : at.set ≡ new.set = same ∙ sym same_too ∙ sym takes.set in
    let here : at.kept ≡ with_earned (snapshot new.set o history) (earned_in at.kept) = stands
    ∙ ap (λ s. with_earned (snapshot s o history) (earned_in at.kept)) mine in
    takes.kept
    ∙ opening_again (snapshot new.set o history) at.kept (earned_in at.kept)
    (both_earned (earned_in old.kept) (earned_in at.kept)) here
    ∙ ap (λ k. with_earned (snapshot new.set o history) (earned_in k)) (sym takes.kept)

taken_restored : (set : SetContents) → IsShape (shape_of set) → (at old taken restored : CourseSeen)
    → old.set ≡ set → IsOpening (shape_of set) at.kept → Takes old taken at.kept → restored.size ≡ old.size
    → ((image : List ℕ) → TakesUp (over old image) (over restored image)
    (progress_bytes (shape_of set) at.kept)) → taken ≡ restored
taken_restored set shape at old taken restored same is takes size up =
    let they = up [] in
    let said : says (shape_of old.set) (progress_bytes (shape_of set) at.kept) ≡ at.kept = ap
    (λ s. says (shape_of s) (progress_bytes (shape_of set) at.kept)) same
    ∙ (comes_back (shape_of set) at.kept shape is).says_it in
    let kept : taken.kept ≡ restored.kept = takes.kept
    ∙ sym (they.kept ∙ ap (λ k. with_earned k (both_earned (earned_in old.kept) (earned_in k))) said) in
    (λ i. record {
      set = (takes.set ∙ sym they.set) i;
      size = (takes.size ∙ sym size) i;
      kept = kept i;
      events = (takes.events ∙ sym they.events) i;
      lines = (takes.lines ∙ sym they.lines) i;
      marked = (takes.marked ∙ sym they.marked) i;
      places = (takes.places ∙ sym they.places) i;
    })

pub taken_as_restored : (set : SetContents) → TakesAsRestored set
taken_as_restored set = record {
  stands = λ at old new same same_too takes o history image now stands. taken_stands set at old new
      same same_too takes o history image now stands;
  restores = λ shape at old taken restored same is takes size up. taken_restored set shape at old
      taken restored same is takes size up;
}
