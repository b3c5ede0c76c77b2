-- Accepted bytes have the blocks of a course, by the shape whose names are made.
use Rattle.std.proofs.Common.{◌≡◌, ℕ, ◌<◌, ◌≤◌, None, Option, IfSome, List, length, map, slice_index_or, get_or, sym}
use Rattle.std.proofs.Common.{◌∙◌, ap, subst, arith}
use Rattle.std.proofs.lemmas.List.{length-map}
use Rattle.ra_set.specs.Contents.{set_contents}
use Rattle.ra_progress.specs.Contents.{ShapeContents, shape_contents}
use Rattle.ra_progress.specs.declared.said.Said.{Said}
use Rattle.ra_progress.specs.declared.shape.ItemShape.{ItemShape}
use Rattle.ra_progress.specs.Reading.{IsAccepted}
use Rattle.ra_progress.specs.Room.{IsFilled}
use Rattle.ra_progress.specs.Saying.{own_places}
use Rattle.ra_progress.proofs.Owns.{own_count}
use Rattle.ra_progress.proofs.Placed.{if_some}
use Rattle.ra_items.specs.Restoring.{HasItem}
use Rattle.ra_items.specs.Shapes.{run_shape}
use Rattle.ra_items.proofs.RestoredRuns.{items_have, display_has}
use Rattle.ra_items.proofs.ShapeLemmas.{runs_shaped}
use Rattle.ra_display.specs.PresenceBack.{HasDisplay}
use Rattle.ra_display.specs.PresenceShapes.{optional_run_shape}
use Rattle.ra_meaning.specs.Order.{shape_of}
use Rattle.ra_meaning.proofs.Openings.Snapshots.{script_has_lines}
use Rattle.ra_runtime.specs.declared.course.Course.TheInside.{Inside}
use Rattle.ra_runtime.specs.declared.lazy_shape.LazyShape.{LazyShape}
use Rattle.ra_runtime.specs.Courses.{CourseSeen}
use Rattle.ra_runtime.proofs.LaidShapes.{presence_shaped}
use Rattle.ra_runtime.specs.Lazy.{MakesNames}
use Rattle.ra_runtime.specs.Seen.{IsCourse, course_seen}

pub presence_made : {t : Inside} → IsCourse t → {shape : LazyShape}
    → MakesNames (shape_of (set_contents t.set)) t.shape shape → shape.shape.presence ≡ optional_run_shape t.presence
presence_made {t} is made = ap (λ (s : ShapeContents). s.presence) made.whole_now.same
    ∙ sym (presence_shaped t.table.nodes (set_contents t.set).script t.presence is.presence)

module _ {t : Inside} (is : IsCourse t) {shape : LazyShape}
    (made : MakesNames (shape_of (set_contents t.set)) t.shape shape) {seen : CourseSeen} (view : course_seen t ≡ seen)
    {bytes : List ℕ} (accepts : IsAccepted (shape_of seen.set) bytes) where
  pub accepted_made : IsAccepted (shape_contents shape.shape) bytes
  accepted_made = subst (λ (s : ShapeContents). IsAccepted s bytes)
      (sym (made.whole_now.same ∙ ap (λ (r : CourseSeen). shape_of r.set) view)) accepts

  runs_made : map run_shape t.runs.items ≡ (shape_contents shape.shape).items
  runs_made = runs_shaped t.table.nodes (set_contents t.set).items t.runs.items is.runs
      ∙ ap (λ (s : ShapeContents). s.items) (sym made.whole_now.same)

  many_made : length t.runs.items ≡ length (shape_contents shape.shape).items
  many_made = sym (length-map t.runs.items run_shape) ∙ ap length runs_made

  -- there is a place for each item, and its block is there
  pub many_places : (said : Said) → IsFilled (shape_contents shape.shape) said
      → length t.runs.items ≤ length said.places.items
  many_places said room = omega (
    arith,
    many_made,
    room.places,
    own_count (shape_contents shape.shape)
        made.whole_now.usable.searchable.paired,
  )

  pub items_made : (places : List (Option ℕ)) → places ≡ own_places (shape_contents shape.shape) bytes
      → (k : ℕ) (d : ItemShape) → k < length t.runs.items
      → HasItem bytes (slice_index_or places k None) (get_or (map run_shape t.runs.items) k d)
  items_made places says k d less = rw (says, runs_made) (items_have (shape_contents shape.shape) bytes
      made.whole_now.usable.searchable.paired accepted_made k d (omega (arith, less, many_made)))

  -- the display's block is at its place, where there is one
  pub display_made : (place : Option ℕ)
      → place ≡ slice_index_or (own_places (shape_contents shape.shape) bytes) (length t.runs.items) None
      → IfSome shape.shape.presence (HasDisplay bytes place)
  display_made place there =
      let stands : place ≡ slice_index_or (own_places (shape_contents shape.shape) bytes)
      (length (shape_contents shape.shape).items) None = there
      ∙ ap (λ n. slice_index_or (own_places (shape_contents shape.shape) bytes) n None) many_made in
      if_some (HasDisplay bytes place) shape.shape.presence
      (λ p some. subst (λ (o : Option ℕ). HasDisplay bytes o p) (sym stands)
      (display_has (shape_contents shape.shape) bytes made.whole_now.usable.searchable.paired accepted_made p some
      (script_has_lines (set_contents t.set) is.script p
      (sym (ap (λ (s : ShapeContents). s.presence) made.whole_now.same) ∙ some))))
