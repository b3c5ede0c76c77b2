-- What a runtime is seen as, what its calls do, and the law of cuts: docs/DEFINITIONS.md, "What a runtime keeps",
-- "Earned achievements" and "The law of cuts".
use Rattle.std.specs.Prelude.{◌≡◌, ◌≢◌, ℕ, Bool, true, false, List, [], ◌∷◌, ◌++◌, length, map, replicate}
use Rattle.ra_set.specs.Contents.{SetContents}
use Rattle.ra_memory.specs.Image.{History, AreImages, written}
use Rattle.ra_memref.specs.Values.{cell_place}
use Rattle.ra_memref.specs.Marks.{marks_after, reads_of}
use Rattle.ra_progress.specs.Contents.{Opening, IsOpening}
use Rattle.ra_progress.specs.Saying.{says}
use Rattle.ra_meaning.specs.Earned.{Earned, earned_in, with_earned, both_earned}
use Rattle.ra_meaning.specs.Order.{set_cells, shape_of}
use Rattle.ra_meaning.specs.Openings.{start_of, snapshot, plain_opening}
use Rattle.ra_meaning.specs.declared.event.Event.{Event}
use Rattle.ra_meaning.specs.Play.{events, lines, earns, shown}

-- what a caller sees of a runtime: its set, the image, and what it keeps, tells and prints
pub record RuntimeSeen : Type 0 where
  pub set : SetContents
  pub image : List ℕ
  -- the opening that it keeps
  pub kept : Opening
  -- the events of the last frame, and their lines
  pub events : List Event
  pub lines : List ℕ
  -- which cells of the set are marked, and where each lies
  pub marked : List Bool
  pub places : List ℕ

-- A runtime over an image of zeros: the plain opening, no events and no lines, and each cell marked and at its address.
pub record IsMade (set : SetContents) (size : ℕ) (runtime : RuntimeSeen) : Type 0 where
  pub set_too : runtime.set ≡ set
  pub image : runtime.image ≡ replicate size 0
  pub kept : runtime.kept ≡ plain_opening set
  pub events : runtime.events ≡ []
  pub lines : runtime.lines ≡ []
  pub marked : runtime.marked ≡ replicate (length (set_cells set)) true
  pub places : runtime.places ≡ map (λ c. c.address) (set_cells set)

-- A write changes the image, and marks the cells that watch it.
pub record IsWritten (old new : RuntimeSeen) (at : ℕ) (bytes : List ℕ) : Type 0 where
  pub rest : new ≡ record old { image = written old.image at bytes; marked = new.marked }
  pub marked : new.marked ≡ marks_after (length old.image) (set_cells old.set) old.places at (length bytes) old.marked

-- the kept opening is the one after a history, but for what is earned
abbrev pub StandsAfter : RuntimeSeen → Opening → History → Type 0
StandsAfter runtime o history = runtime.kept ≡ with_earned (snapshot runtime.set o history) (earned_in runtime.kept)

-- A frame goes on from every opening and every history after which old stands; what was earned before it is silent.
pub record TakesFrame (old new : RuntimeSeen) : Type 0 where
  pub set : new.set ≡ old.set
  pub image : new.image ≡ old.image
  pub kept : (o : Opening) (history : History) → IsOpening (shape_of old.set) o → AreImages history
      → StandsAfter old o history → StandsAfter new o (old.image ∷ history)
  pub earned : (o : Opening) (history : History) → IsOpening (shape_of old.set) o
      → AreImages history → StandsAfter old o history → earned_in new.kept
      ≡ earns old.set o (old.image ∷ history) (earned_in old.kept)
  pub events : (o : Opening) (history : History) → IsOpening (shape_of old.set) o
      → AreImages history → StandsAfter old o history → new.events
      ≡ events old.set o (old.image ∷ history) (earned_in old.kept)
  pub lines : (o : Opening) (history : History) → IsOpening (shape_of old.set) o → AreImages history
      → StandsAfter old o history → new.lines
      ≡ lines old.set o (old.image ∷ history) (earned_in old.kept)

-- A frame reads the cells that are marked or moved, and leaves none marked.
pub record ReadsFew (old new : RuntimeSeen) (reads : ℕ) : Type 0 where
  pub unmarked : new.marked ≡ replicate (length (set_cells old.set)) false
  pub places : (o : Opening) (history : History) → IsOpening (shape_of old.set) o
      → StandsAfter old o history → new.places
      ≡ map (λ c. cell_place (start_of old.set o) c (old.image ∷ history)) (set_cells old.set)
  pub counted : reads ≡ reads_of old.marked old.places new.places

-- A restore keeps what the bytes say, and what was earned stays earned: the last events and lines go, set and image
-- stay.
pub record TakesUp (old new : RuntimeSeen) (bytes : List ℕ) : Type 0 where
  pub set : new.set ≡ old.set
  pub image : new.image ≡ old.image
  pub kept : new.kept ≡ with_earned (says (shape_of old.set) bytes)
      (both_earned (earned_in old.kept) (earned_in (says (shape_of old.set) bytes)))
  pub events : new.events ≡ []
  pub lines : new.lines ≡ []
  pub marked : new.marked ≡ replicate (length (set_cells old.set)) true
  pub places : new.places ≡ old.places

-- A show tells the presence of every opening and history after which the runtime stands.
abbrev pub ShowsKept : RuntimeSeen → List ℕ → Type 0
ShowsKept runtime text =
    (o : Opening) (history : History) → IsOpening (shape_of runtime.set) o → AreImages history
    → StandsAfter runtime o history → text ≡ shown runtime.set o history

-- The law of cuts: a history may be cut at any frame, and the opening there taken as a new beginning, whatever is
-- earned.
pub record CutsAnywhere (set : SetContents) : Type 0 where
  pub kept : (o : Opening) (earlier later : History) → IsOpening (shape_of set) o
      → snapshot set o (later ++ earlier) ≡ snapshot set (snapshot set o earlier) later
  pub shows : (o : Opening) (earlier later : History) → IsOpening (shape_of set) o
      → shown set o (later ++ earlier) ≡ shown set (snapshot set o earlier) later
  pub prints : (o : Opening) (earlier later : History) (earned : Earned)
      → IsOpening (shape_of set) o → later ≢ [] → lines set o (later ++ earlier) earned
      ≡ lines set (snapshot set o earlier) later earned
  pub tells : (o : Opening) (earlier later : History) (earned : Earned) → IsOpening (shape_of set) o
      → later ≢ [] → events set o (later ++ earlier) earned
      ≡ events set (snapshot set o earlier) later earned
  pub earned_too : (o : Opening) (earlier later : History) (earned : Earned)
      → IsOpening (shape_of set) o → later ≢ [] → earns set o (later ++ earlier) earned
      ≡ earns set (snapshot set o earlier) later earned
