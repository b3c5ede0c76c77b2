-- Why a file is no set: docs/DEFINITIONS.md, "Limits of a set" and "Repeated ids".
use Rattle.std.specs.Prelude.{◌≡◌, ℕ, ◌+◌, ◌<◌, ◌≤◌, true, List, length, Some, slice_get}
use Rattle.std.specs.List.{IsDistinct}
use Rattle.ra_set.specs.declared.refused.Which.TheVariants.{Bytes}
use Rattle.ra_set.specs.declared.refused.SetRefused.{SetRefused}
use Rattle.ra_set.specs.declared.refused.SetRefused.TheVariants.{Syntax, DuplicateId, Limit, Memory}
use Rattle.ra_set.specs.Accepted.{repeats}
use Rattle.ra_set.specs.Contents.{ItemContents, Unlocks, Ranks}
use Rattle.ra_set.specs.Grammar.{Line, FileContents, set_file, items_of}
use Rattle.ra_set.specs.Limits.{most_bytes, PassesLimit}
use Rattle.ra_set.specs.Places.{IsFileOutside}

-- the id of an item
abbrev pub id_of : ItemContents → ℕ
id_of (Unlocks id t) = id
id_of (Ranks id format b) = id

-- the line at a place, counted from 0, has an item that repeats the id of an earlier line of its letter
pub record RepeatsAt (lines : List Line) (place : ℕ) (item : ItemContents) : Type 0 where
  pub here : slice_get lines place ≡ Some (Some item)
  pub earlier : ℕ
  pub before : earlier < place
  pub other : ItemContents
  pub there : slice_get lines earlier ≡ Some (Some other)
  pub same : repeats other item ≡ true

-- the first line that repeats an id of its own letter, counted from 1
pub record FirstRepeat (lines : List Line) (id number : ℕ) : Type 0 where
  pub place : ℕ
  pub counted : number ≡ place + 1
  pub item : ItemContents
  pub repeated : RepeatsAt lines place item
  pub named : id ≡ id_of item
  pub first : (earlier : ℕ) (other : ItemContents) → earlier < place → RepeatsAt lines earlier other → ⊥

-- the file is no longer than a set may be, and this is what it contains
pub record HasContents (file : List ℕ) (contents : FileContents) : Type 0 where
  pub size : length file ≤ most_bytes
  pub spelled : set_file file contents

-- the file contains this, and no two lines of one letter have one id
pub record HasDistinct (file : List ℕ) (contents : FileContents) : Type 0 where
  pub has : HasContents file contents
  pub ids : IsDistinct repeats (items_of contents.lines)

-- how a file is refused: the first of these that comes, in the order of the cases; running out of memory is no refusal
-- of a file
abbrev pub Refuses : List ℕ → SetRefused → Type 0
Refuses file (Limit Bytes found) = (most_bytes < length file) × (found ≡ length file)
Refuses file (Syntax at) = (length file ≤ most_bytes) × IsFileOutside file at
Refuses file (DuplicateId id number) =
    (contents : FileContents) × HasContents file contents × FirstRepeat contents.lines id number
Refuses file (Limit which found) = (contents : FileContents) × HasDistinct file contents
    × PassesLimit (items_of contents.lines) contents.script (Limit which found)
Refuses file Memory = ⊥
