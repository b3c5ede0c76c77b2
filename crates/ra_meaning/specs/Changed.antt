-- A set that was changed goes on with what is the same in both: docs/DEFINITIONS.md, "The law of a changed set".
use Rattle.std.specs.Prelude.{◌≡◌, ◌≢◌, ◌⊎◌, ℕ, Bool, Option, None, Some, option_to_list, Contains, List, [], ◌∷◌, ◌++◌}
use Rattle.std.specs.Prelude.{length, map, zip, slice_get}
use Rattle.std.specs.List.{flat_map, range_with_len}
use Rattle.md5.specs.Md5.{md5}
use Rattle.ra_memory.specs.Image.{History, AreImages}
use Rattle.ra_indirect.specs.Trees.{Tree, constant, join, view, Cell, Tracked, cells_in, tracked_in}
use Rattle.ra_memref.specs.Names.{tree_name, cell_name, tracked_name}
use Rattle.ra_memref.specs.Values.{Start}
use Rattle.ra_set.specs.Accepted.{IsSet}
use Rattle.ra_set.specs.Contents.{ItemContents, SetContents}
use Rattle.ra_set.specs.Texts.{item_texts, script_text}
use Rattle.ra_progress.specs.Contents.{KeptItem, Opening, IsOpening}
use Rattle.ra_progress.specs.Reading.{IsAccepted}
use Rattle.ra_progress.specs.Saying.{says}
use Rattle.ra_progress.specs.Spelling.{progress_bytes}
use Rattle.ra_meaning.specs.declared.event.Event.{Event}
use Rattle.ra_meaning.specs.Earned.{Earned, earned_in, with_earned, HoldTriggered}
use Rattle.ra_meaning.specs.Lines.{event_lines}
use Rattle.ra_meaning.specs.Openings.{start_of, frames_after, snapshot}
use Rattle.ra_meaning.specs.Order.{trees_in_item, trees_in_line, lines_in, trees_in_set, set_cells, set_tracked}
use Rattle.ra_meaning.specs.Order.{shape_of}
use Rattle.ra_meaning.specs.Play.{item_events, unless_earned, events, lines, shown}

-- ---- when names tell things apart

-- two things of a list that have one name are one
abbrev pub NamesTell : {A : Type 0} → (A → List ℕ) → List A → Type 0
NamesTell {A} name things = (a b : A) → Contains things a → Contains things b → name a ≡ name b → a ≡ b

-- the texts that the names of a file are taken of: the lines of its items, and its script
abbrev pub texts_in : List ℕ → List (List ℕ)
texts_in file = item_texts file ++ option_to_list (script_text file)

-- within each kind a name of two sets tells what it is of, and their digests tell the files apart
pub record NamesApart (file other : List ℕ) (set changed : SetContents) : Type 0 where
  pub texts : NamesTell md5 (texts_in file ++ texts_in other)
  pub cells : NamesTell cell_name (set_cells set ++ set_cells changed)
  pub tracked : NamesTell tracked_name (set_tracked set ++ set_tracked changed)
  pub digests : (file ≡ other) ⊎ (set.digest ≢ changed.digest)

-- what has a name: a line or a script, a tree, a cell, a tracked mask
pub data Thing : Type 0 where
  OfText : List ℕ → Thing
  OfTree : Tree → Thing
  OfCell : Cell → Thing
  OfMask : Tracked → Thing

-- the name of a thing
abbrev pub thing_name : Thing → List ℕ
thing_name (OfText text) = md5 text
thing_name (OfTree tree) = tree_name tree
thing_name (OfCell c) = cell_name c
thing_name (OfMask t) = tracked_name t

-- a tree and all trees in it
abbrev pub subtrees : Tree → List Tree
subtrees (constant n) = constant n ∷ []
subtrees (join op left right) = join op left right ∷ (subtrees left ++ subtrees right)
subtrees (view kind size pointer address) = view kind size pointer address ∷ subtrees pointer

-- all that has a name in a set of this file
abbrev pub things_in : List ℕ → SetContents → List Thing
things_in file set =
    map OfText (texts_in file)
    ++ (map OfTree (flat_map subtrees (trees_in_set set))
    ++ (map OfCell (set_cells set) ++ map OfMask (set_tracked set)))

-- of all that has a name in two sets no two different things have one name, and their digests tell the files apart
pub record AllNamesApart (file other : List ℕ) (set changed : SetContents) : Type 0 where
  pub names : NamesTell thing_name (things_in file set ++ things_in other changed)
  pub digests : (file ≡ other) ⊎ (set.digest ≢ changed.digest)

-- ---- one item of a set

-- the events of the item that stands beside its opening and whether it is earned; none where no item is
abbrev pub told_at : Start → (image : List ℕ) → (earlier : History)
    → Option (Bool × (ItemContents × KeptItem)) → List Event
told_at start image earlier None = []
told_at start image earlier (Some item) = unless_earned (item_events start image earlier) item

-- the events of the item at a place at the last frame: its part of the set's events
abbrev pub events_at : SetContents → Opening → History → Earned → (place : ℕ) → List Event
events_at set o [] earned place = []
events_at set o (image ∷ earlier) earned place =
    told_at (start_of set o) image earlier (slice_get (zip earned (zip set.items o.items)) place)

-- the lines of the item at a place at the last frame: its part of the set's lines
abbrev pub lines_at : SetContents → Opening → History → Earned → (place : ℕ) → List ℕ
lines_at set o [] earned place = []
lines_at set o (image ∷ earlier) earned place =
    event_lines (frames_after o.frames (length earlier)) (events_at set o (image ∷ earlier) earned place)

-- what a set tells and prints at the last frame is what its items tell and print, place by place
pub record IsItemByItem (set : SetContents) : Type 0 where
  pub tells : (o : Opening) (history : History) (earned : Earned) → events set o history earned
      ≡ flat_map (events_at set o history earned) (range_with_len 0 (length set.items))
  pub prints : (o : Opening) (history : History) (earned : Earned) → lines set o history earned
      ≡ flat_map (lines_at set o history earned) (range_with_len 0 (length set.items))

-- ---- what goes on

-- the opening that is kept after some frames, with exactly these achievements earned
abbrev pub kept_behind : SetContents → Opening → History → Earned → Opening
kept_behind set o behind earned = with_earned (snapshot set o behind) earned

-- what a changed set takes up of the bytes that the set wrote of an opening
abbrev pub taken_up : (set changed : SetContents) → Opening → Opening
taken_up set changed kept = says (shape_of changed) (progress_bytes (shape_of set) kept)

-- the cells and the tracked masks of trees have one number in both
pub record HaveOneStart (start other : Start) (trees : List Tree) : Type 0 where
  pub numbers : (c : Cell) → Contains (flat_map cells_in trees) c → other.number c ≡ start.number c
  pub priors : (t : Tracked) → Contains (flat_map tracked_in trees) t → other.prior t ≡ start.prior t

-- An item at a place of the set goes on at another of the changed one: both have it, what is said of it is what was
-- kept, and it tells and prints what it would have without the change.
pub record ItemGoesOn (set changed : SetContents) (o : Opening) (behind : History) (earned : Earned)
    (kept said : Opening) (place other : ℕ) : Type 0 where
  pub item : ItemContents
  pub opened : KeptItem
  pub there : slice_get set.items place ≡ Some item
  pub there_too : slice_get changed.items other ≡ Some item
  pub kept_so : slice_get kept.items place ≡ Some opened
  pub said_so : slice_get said.items other ≡ Some opened
  pub starts : HaveOneStart (start_of set kept) (start_of changed said) (trees_in_item item)
  pub frames : said.frames ≡ kept.frames
  pub tells : (later : History) → later ≢ [] → events_at changed said later (earned_in said) other
      ≡ events_at set o (later ++ behind) earned place
  pub prints : (later : History) → later ≢ [] → lines_at changed said later (earned_in said) other
      ≡ lines_at set o (later ++ behind) earned place

-- A script goes on: both sets have it, what is said of it is what was kept, and it shows what it would have without
-- the change.
pub record ScriptGoesOn (set changed : SetContents) (o : Opening) (behind : History)
    (earned : Earned) (kept said : Opening) : Type 0 where
  pub there : changed.script ≡ set.script
  pub said_so : said.presence ≡ kept.presence
  pub starts : HaveOneStart (start_of set kept) (start_of changed said) (flat_map trees_in_line (lines_in set.script))
  pub frames : said.frames ≡ kept.frames
  pub shows : (later : History) → shown changed said later ≡ shown set o (later ++ behind)

-- From each opening, each history and all that may be earned: where both files have a line of an item or a script, the
-- changed set accepts what the set wrote, and the item or the script goes on.
pub record GoesOnIn (file other : List ℕ) (set changed : SetContents) : Type 0 where
  pub items : (o : Opening) (behind : History) (earned : Earned) (place there : ℕ) (text : List ℕ)
      → IsOpening (shape_of set) o → AreImages behind
      → HoldTriggered earned (snapshot set o behind).items
      → slice_get (item_texts file) place ≡ Some text → slice_get (item_texts other) there ≡ Some text
      → IsAccepted (shape_of changed) (progress_bytes (shape_of set) (kept_behind set o behind earned))
      × ItemGoesOn set changed o behind earned (kept_behind set o behind earned)
      (taken_up set changed (kept_behind set o behind earned)) place there
  pub script : (o : Opening) (behind : History) (earned : Earned) (text : List ℕ) → IsOpening
      (shape_of set) o → AreImages behind → HoldTriggered earned (snapshot set o behind).items
      → script_text file ≡ Some text → script_text other ≡ Some text
      → IsAccepted (shape_of changed) (progress_bytes (shape_of set) (kept_behind set o behind earned))
      × ScriptGoesOn set changed o behind earned (kept_behind set o behind earned)
      (taken_up set changed (kept_behind set o behind earned))

-- whatever two files are sets whose names tell what they are of, the one goes on in the other
abbrev pub SetsGoOn : Type 0
SetsGoOn =
    (file other : List ℕ) (set changed : SetContents) → IsSet file set → IsSet other changed
    → NamesApart file other set changed → GoesOnIn file other set changed
