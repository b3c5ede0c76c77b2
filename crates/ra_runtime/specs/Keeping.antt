-- States of a course that are kept in memory, and what their calls do: docs/DEFINITIONS.md, "States kept in memory".
use Rattle.std.specs.Prelude.{◌≡◌, ℕ, ◌+◌, ◌<◌, ◌≤◌, ◌^◌, true, Option, None, Some, option_map, IfSome, List, [], ◌∷◌}
use Rattle.std.specs.Prelude.{◌++◌, length, map, drop, replicate, sum_by, slice_index_or, get_or}
use Rattle.std.specs.List.{concat}
use Rattle.ra_set.specs.Contents.{SetContents}
use Rattle.ra_memory.specs.Image.{History}
use Rattle.ra_progress.specs.declared.shape.ItemShape.{ItemShape}
use Rattle.ra_progress.specs.declared.shape.PresenceShape.{PresenceShape}
use Rattle.ra_progress.specs.Contents.{KeptItem, KeptPresence, ItemsFit, PresenceFits, Opening, IsOpening}
use Rattle.ra_progress.specs.Contents.{ShapeContents, plain_presence}
use Rattle.ra_progress.specs.Layout.{item_length, version_in}
use Rattle.ra_progress.specs.Laws.{IsShape}
use Rattle.ra_progress.specs.Saying.{said_items, said_or, said_presence}
use Rattle.ra_progress.specs.Spelling.{item_bytes, presence_block, progress_bytes}
use Rattle.ra_items.specs.Restoring.{HasItem}
use Rattle.ra_display.specs.PresenceBack.{HasDisplay}
use Rattle.ra_meaning.specs.Earned.{both_earned, earned_in, with_earned}
use Rattle.ra_meaning.specs.Order.{set_cells, shape_of}
use Rattle.ra_meaning.specs.Runtime.{RuntimeSeen, StandsAfter, TakesUp}
use Rattle.ra_runtime.specs.Courses.{CourseSeen, over, IsCurrent}
use Rattle.ra_runtime.specs.declared.kept.Kept.TheInside.{Inside}

-- what a caller sees of a kept state: the digest of the set that it is for, how many numbers its items and its display
-- keep, and the opening
pub record KeptSeen : Type 0 where
  pub digest : List ℕ
  pub items : List ItemShape
  pub presence : Option PresenceShape
  pub opening : Opening

-- where the blocks of items stand, one after another, from a place on
abbrev pub item_places : (at : ℕ) → List ItemShape → List (Option ℕ)
item_places at [] = []
item_places at (shape ∷ shapes) = Some at ∷ item_places (at + item_length shape) shapes

-- what a caller sees of the inside of a kept state: its blocks say the items and the display
abbrev pub kept_seen : Inside → KeptSeen
kept_seen t = record {
  digest = t.digest;
  items = t.items.items;
  presence = t.presence;
  opening = record {
    frames = t.count;
    cells = t.cells.items;
    priors = t.priors.items;
    items = said_items t.bytes.items t.items.items t.places.items;
    presence = option_map (λ p. said_presence t.bytes.items p t.display) t.presence;
  };
}

-- the blocks of these items and of this display stand in a row, from the twentieth byte on, as version 3 has them
pub record AreBlocks (bytes : List ℕ) (shapes : List ItemShape) (presence : Option PresenceShape)
    (items : List KeptItem) (kept : Option KeptPresence) : Type 0 where
  pub long : 20 ≤ length bytes
  pub version : version_in bytes ≡ 3
  pub fit : ItemsFit shapes items
  pub fits : PresenceFits presence kept
  pub small : IfSome presence (λ p. p.lines < 2 ^ 32)
  pub behind : List ℕ
  pub here : drop 20 bytes ≡ (concat (map item_bytes items) ++ concat (presence_block kept)) ++ behind

-- the blocks stand where the places are, and say what is seen
pub record IsKept (t : Inside) : Type 0 where
  pub blocks : AreBlocks t.bytes.items t.items.items t.presence (kept_seen t).opening.items
      (kept_seen t).opening.presence
  pub places : t.places.items ≡ item_places 20 t.items.items
  pub display : t.display ≡ 20 + sum_by item_length t.items.items

-- a display shows one of its lines, of which there are fewer than 2^32
pub record HasLines (shape : PresenceShape) : Type 0 where
  pub some : 0 < shape.lines
  pub few : shape.lines < 2 ^ 32

-- a kept state is for a set of this shape, with this many cells and tracked masks: it has its digest, and as many
-- numbers of each kind
pub record IsKeptOf (many_cells many_priors : ℕ) (shape : ShapeContents) (kept : KeptSeen) : Type 0 where
  pub digest : kept.digest ≡ shape.digest
  pub cells : length kept.opening.cells ≡ many_cells
  pub priors : length kept.opening.priors ≡ many_priors
  pub items : kept.items ≡ shape.items
  pub presence : kept.presence ≡ shape.presence

-- the same with those that the shape has
abbrev pub IsKeptFor : ShapeContents → KeptSeen → Type 0
IsKeptFor shape = IsKeptOf (length shape.cells) (length shape.priors) shape

-- the blocks of a kept state, as the calls that put a file back take them: they stand where the places are, and say
-- what is seen
pub record AreLent (kept : KeptSeen) (bytes : List ℕ) (places : List (Option ℕ)) (display : Option ℕ) : Type 0 where
  pub many : length kept.items ≡ length places
  pub has : (k : ℕ) (d : ItemShape) → k < length kept.items
      → HasItem bytes (slice_index_or places k None) (get_or kept.items k d)
  pub said : said_items bytes kept.items places ≡ kept.opening.items
  pub shows : IfSome kept.presence (HasDisplay bytes display)
  pub shown : option_map (λ p. said_or (said_presence bytes p) (plain_presence p) display)
      kept.presence ≡ kept.opening.presence

-- A kept state is taken up: what was earned stays earned; the last events and lines go, and each cell is marked, so
-- that every image is current; set, size and places stay.
pub record Takes (old new : CourseSeen) (opening : Opening) : Type 0 where
  pub set : new.set ≡ old.set
  pub size : new.size ≡ old.size
  pub kept : new.kept ≡ with_earned opening (both_earned (earned_in old.kept) (earned_in opening))
  pub events : new.events ≡ []
  pub lines : new.lines ≡ []
  pub marked : new.marked ≡ replicate (length (set_cells old.set)) true
  pub places : new.places ≡ old.places
  pub current : (image : List ℕ) → IsCurrent (over new image)

-- what is seen of a runtime without its image, as a course is seen
abbrev pub course_of : RuntimeSeen → CourseSeen
course_of runtime = record {
  set = runtime.set;
  size = length runtime.image;
  kept = runtime.kept;
  events = runtime.events;
  lines = runtime.lines;
  marked = runtime.marked;
  places = runtime.places;
}

-- A taken state is a restored one: the course stands after each history after which the one that was kept stood, and
-- is what a restore of that one's own bytes makes of it.
pub record TakesAsRestored (set : SetContents) : Type 0 where
  pub stands : (at old new : CourseSeen) → at.set ≡ set → old.set ≡ set → Takes old new at.kept
      → (o : Opening) (history : History) (image now : List ℕ)
      → StandsAfter (over at image) o history → StandsAfter (over new now) o history
  pub restores : IsShape (shape_of set) → (at old taken restored : CourseSeen) → old.set ≡ set
      → IsOpening (shape_of set) at.kept → Takes old taken at.kept → restored.size ≡ old.size
      → ((image : List ℕ) → TakesUp (over old image) (over restored image)
      (progress_bytes (shape_of set) at.kept)) → taken ≡ restored
