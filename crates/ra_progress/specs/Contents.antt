-- What a snapshot and a shape contain. The contents of a snapshot are an opening: what stands before the first frame.
use Rattle.std.specs.Prelude.{◌≡◌, ℕ, ◌-◌, ◌<◌, ◌≤◌, ◌^◌, Bool, true, false, Option, None, Some, option_map, List, []}
use Rattle.std.specs.Prelude.{◌∷◌, ◌++◌, length, map, replicate, slice_index_or}
use Rattle.ra_progress.specs.declared.own.OwnShape.{OwnShape}
use Rattle.ra_progress.specs.declared.own.OwnShape.TheVariants as owned
use Rattle.ra_progress.specs.declared.shape.ItemShape.{ItemShape}
use Rattle.ra_progress.specs.declared.shape.ItemShape.TheVariants as shapes
use Rattle.ra_progress.specs.declared.shape.PresenceShape.{PresenceShape}
use Rattle.ra_progress.specs.declared.shape.Shape.{Shape}
use Rattle.ra_progress.specs.declared.snapshot.ItemKept.{ItemKept}
use Rattle.ra_progress.specs.declared.snapshot.ItemKept.TheVariants as kept
use Rattle.ra_progress.specs.declared.snapshot.PresenceKept.{PresenceKept}
use Rattle.ra_progress.specs.declared.snapshot.Snapshot.{Snapshot}
use Rattle.ra_text.specs.Words.{AreWords}

-- a name: sixteen bytes
abbrev pub Name : Type 0
Name = List ℕ

-- the shape of a set: its digest, the names of its cells, tracked masks, items and script, and how many numbers these
-- keep
pub record ShapeContents : Type 0 where
  pub digest : List ℕ
  pub cells : List Name
  pub priors : List Name
  pub items : List ItemShape
  pub item_names : List Name
  pub presence : Option PresenceShape
  pub presence_name : Option Name

-- the contents of a shape
abbrev pub shape_contents : Shape → ShapeContents
shape_contents s = record {
  digest = s.digest;
  cells = s.cells.items;
  priors = s.priors.items;
  items = s.items.items;
  item_names = s.item_names.items;
  presence = s.presence;
  presence_name = s.presence_name;
}

-- what an entry of a file keeps: an item, or the presence
pub data EntryShape : Type 0 where
  OfItem : ItemShape → EntryShape
  OfPresence : PresenceShape → EntryShape

-- what the code's own shape stands for
abbrev pub entry_shape : OwnShape → EntryShape
entry_shape (owned.Item shape) = OfItem shape
entry_shape (owned.Presence shape) = OfPresence shape

-- an own entry: one that the set writes
pub record Own : Type 0 where
  pub name : Name
  pub shape : EntryShape

-- the own entries of items, which stand beside their names
abbrev pub own_items : List Name → List ItemShape → List Own
own_items (name ∷ names) (shape ∷ shapes) = record { name = name; shape = OfItem shape } ∷ own_items names shapes
own_items _ _ = []

-- the own entry of a script, where there is one
abbrev pub own_presence : Option Name → Option PresenceShape → List Own
own_presence (Some name) (Some shape) = record { name = name; shape = OfPresence shape } ∷ []
own_presence _ _ = []

-- the own entries of a set: the items in set order, then the script
abbrev pub own_entries : ShapeContents → List Own
own_entries shape = own_items shape.item_names shape.items ++ own_presence shape.presence_name shape.presence

-- the own entry of a number; after the last one stands one without a name and without hits
abbrev pub own_at : List Own → ℕ → Own
own_at owns number = slice_index_or owns number (record { name = []; shape = OfItem (shapes.Achievement 0) })

-- what is kept of an item: a state byte, an achievement's measured number or a board's kept numbers, and hits; and
-- whether an achievement is earned
pub data KeptItem : Type 0 where
  OfAchievement : (state measured : ℕ) → (hits : List ℕ) → (earned : Bool) → KeptItem
  OfBoard : (state : ℕ) → (hits numbers : List ℕ) → KeptItem

-- the contents of a kept item
abbrev pub kept_item : ItemKept → KeptItem
kept_item (kept.Achievement state measured hits earned) = OfAchievement state measured hits.items earned
kept_item (kept.Leaderboard state hits numbers) = OfBoard state hits.items numbers.items

-- what is kept of the presence: the index of the shown line, hits, and the kept numbers of the macros
pub record KeptPresence : Type 0 where
  pub shown : ℕ
  pub hits : List ℕ
  pub numbers : List ℕ

-- the contents of a kept presence
abbrev pub kept_presence : PresenceKept → KeptPresence
kept_presence p = record { shown = p.shown; hits = p.hits.items; numbers = p.kept.items }

-- what a progress file keeps: frames, cells and priors, items, and presence
pub record Opening : Type 0 where
  pub frames : ℕ
  pub cells : List ℕ
  pub priors : List ℕ
  pub items : List KeptItem
  pub presence : Option KeptPresence

-- the contents of a snapshot
abbrev pub snapshot_contents : Snapshot → Opening
snapshot_contents s = record {
  frames = s.frames;
  cells = s.cells.items;
  priors = s.priors.items;
  items = map kept_item s.items.items;
  presence = option_map kept_presence s.presence;
}

-- what is kept has the counts of the shape, its state is in its table, and each number is of 32 bits; a triggered
-- achievement is earned
abbrev pub ItemFits : ItemShape → KeptItem → Type 0
ItemFits (shapes.Achievement count) (OfAchievement state measured hits earned) =
    (state ≤ 4) × (state ≡ 4 → earned ≡ true) × (measured < 2 ^ 32) × AreWords count hits
ItemFits (shapes.Leaderboard count parts) (OfBoard state hits numbers) =
    (state ≤ 4) × AreWords count hits × AreWords parts numbers
ItemFits _ _ = ⊥

-- items one beside the other have the shapes of a set
abbrev pub ItemsFit : List ItemShape → List KeptItem → Type 0
ItemsFit [] [] = Unit {0}
ItemsFit (shape ∷ shapes) (item ∷ items) = ItemFits shape item × ItemsFit shapes items
ItemsFit _ _ = ⊥

-- a presence has the shape of a script, and neither is there without the other
abbrev pub PresenceFits : Option PresenceShape → Option KeptPresence → Type 0
PresenceFits None None = Unit {0}
PresenceFits (Some shape) (Some p) =
    (p.shown < shape.lines) × AreWords shape.hits p.hits × AreWords shape.parts p.numbers
PresenceFits _ _ = ⊥

-- the opening is one of this shape
pub record IsOpening (shape : ShapeContents) (o : Opening) : Type 0 where
  pub frames : o.frames < 2 ^ 64
  pub cells : AreWords (length shape.cells) o.cells
  pub priors : AreWords (length shape.priors) o.priors
  pub items : ItemsFit shape.items o.items
  pub presence : PresenceFits shape.presence o.presence

-- nothing has happened: all waits, nothing is earned, the last line is shown, and all numbers are 0
abbrev pub plain_item : ItemShape → KeptItem
plain_item (shapes.Achievement hits) = OfAchievement 0 0 (replicate hits 0) false
plain_item (shapes.Leaderboard hits parts) = OfBoard 0 (replicate hits 0) (replicate parts 0)

-- the presence of a set that was never played: the last line, and all numbers 0
abbrev pub plain_presence : PresenceShape → KeptPresence
plain_presence shape = record
    { shown = shape.lines - 1; hits = replicate shape.hits 0; numbers = replicate shape.parts 0 }

-- the opening of a shape that was never played
abbrev pub plain_of : ShapeContents → Opening
plain_of shape = record {
  frames = 0;
  cells = replicate (length shape.cells) 0;
  priors = replicate (length shape.priors) 0;
  items = map plain_item shape.items;
  presence = option_map plain_presence shape.presence;
}
