-- What a course is seen as, a set whose images its caller holds, and what its calls do: docs/DEFINITIONS.md, "A frame
-- that looks".
use Rattle.std.specs.Prelude.{◌≡◌, ℕ, ◌+◌, ◌<◌, Bool, true, false, not, List, [], ◌∷◌, length, map, replicate, count_by}
use Rattle.std.specs.Prelude.{slice_index, slice_index_or}
use Rattle.ra_set.specs.Contents.{SetContents}
use Rattle.ra_memory.specs.Image.{History, raw}
use Rattle.ra_memref.specs.Values.{cell_place}
use Rattle.ra_memref.specs.Marks.{marks_after, marks_seen, reads_of}
use Rattle.ra_memref.specs.Table.{DifferWithin, no_cell}
use Rattle.ra_progress.specs.Contents.{Opening, IsOpening}
use Rattle.ra_meaning.specs.Earned.{Earned, both_earned, earned_in, with_earned}
use Rattle.ra_meaning.specs.Order.{set_cells, shape_of}
use Rattle.ra_meaning.specs.Openings.{start_of, plain_opening}
use Rattle.ra_meaning.specs.declared.event.Event.{Event}
use Rattle.ra_meaning.specs.Runtime.{RuntimeSeen, StandsAfter, TakesFrame}

-- what a caller sees of a course: a runtime but for its image, and the size of the images
pub record CourseSeen : Type 0 where
  pub set : SetContents
  pub size : ℕ
  pub kept : Opening
  pub events : List Event
  pub lines : List ℕ
  pub marked : List Bool
  pub places : List ℕ

-- a course and an image are what a runtime is seen as
abbrev pub over : CourseSeen → List ℕ → RuntimeSeen
over course image = record {
  set = course.set;
  image = image;
  kept = course.kept;
  events = course.events;
  lines = course.lines;
  marked = course.marked;
  places = course.places;
}

-- each cell that is not marked has the image's number at its place
abbrev pub IsCurrent : RuntimeSeen → Type 0
IsCurrent runtime =
    (k : ℕ) → k < length runtime.kept.cells → slice_index_or runtime.marked k true ≡ false →
    slice_index runtime.kept.cells k ≡ raw (slice_index_or (set_cells runtime.set) k no_cell).width
    runtime.image (slice_index runtime.places k)

-- A course before the first frame: the plain opening, no events and no lines, and each cell marked and at its address,
-- so that every image is current.
pub record IsBegun (set : SetContents) (size : ℕ) (course : CourseSeen) : Type 0 where
  pub set_too : course.set ≡ set
  pub size_too : course.size ≡ size
  pub kept : course.kept ≡ plain_opening set
  pub events : course.events ≡ []
  pub lines : course.lines ≡ []
  pub marked : course.marked ≡ replicate (length (set_cells set)) true
  pub places : course.places ≡ map (λ c. c.address) (set_cells set)
  pub current : (image : List ℕ) → IsCurrent (over course image)

-- A change is told: the cells that watch its pages are marked, and what was current is current after it.
pub record IsTold (old new : CourseSeen) (at count : ℕ) : Type 0 where
  pub rest : new ≡ record old { marked = new.marked }
  pub marked : new.marked ≡ marks_after old.size (set_cells old.set) old.places at count old.marked
  pub current : (image image' : List ℕ) → length image ≡ old.size → DifferWithin at count image
      image' → IsCurrent (over old image) → IsCurrent (over new image')

-- An image is looked at: the cells that have another number in it than the kept one are marked, and nothing else
-- changes.
pub record LooksAt (old new : CourseSeen) (image : List ℕ) : Type 0 where
  pub rest : new ≡ record old { marked = new.marked }
  pub marked : new.marked ≡ marks_seen image (set_cells old.set) old.places old.kept.cells old.marked
  pub current : IsCurrent (over new image)

-- A course takes a frame of an image as a runtime does; the image is current after it, and the size stays.
pub record TakesImage (old new : CourseSeen) (image : List ℕ) : Type 0 where
  pub frame : TakesFrame (over old image) (over new image)
  pub current : IsCurrent (over new image)
  pub size : new.size ≡ old.size

-- A frame that looks reads each cell that is not marked, and then each one that is marked by then or has moved; it
-- leaves none marked.
pub record ReadsLooked (old new : RuntimeSeen) (reads : ℕ) : Type 0 where
  pub unmarked : new.marked ≡ replicate (length (set_cells old.set)) false
  pub places : (o : Opening) (history : History) → IsOpening (shape_of old.set) o
      → StandsAfter old o history → new.places
      ≡ map (λ c. cell_place (start_of old.set o) c (old.image ∷ history)) (set_cells old.set)
  pub counted : reads ≡ count_by not old.marked + reads_of (marks_seen old.image
      (set_cells old.set) old.places old.kept.cells old.marked) old.places new.places

-- More is earned, by an answer for each item, and nothing else changes; the course stands after every history after
-- which it stood.
pub record EarnsToo (old new : CourseSeen) (earned : Earned) : Type 0 where
  pub rest : new ≡ record old { kept = with_earned old.kept (both_earned (earned_in old.kept) earned) }
  pub stands : (image : List ℕ) (o : Opening) (history : History)
      → StandsAfter (over old image) o history → StandsAfter (over new image) o history
