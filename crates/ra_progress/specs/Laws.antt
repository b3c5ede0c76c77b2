-- What a reader wants of the two directions of a progress file.
use Rattle.std.specs.Prelude.{◌≡◌, ℕ, ◌<◌, ◌≤◌, ◌^◌, true, List, length, map, Some}
use Rattle.std.specs.List.{AllByRecursion}
use Rattle.ra_progress.specs.declared.shape.PresenceShape.{PresenceShape}
use Rattle.ra_progress.specs.Contents.{ShapeContents, Opening}
use Rattle.ra_progress.specs.Layout.{version_in, cells_in, priors_in, entries_in, length_of}
use Rattle.ra_progress.specs.Names.{IsName, IsPaired, entry_names}
use Rattle.ra_progress.specs.Spelling.{progress_bytes}
use Rattle.ra_progress.specs.Reading.{of_this_set, IsAccepted}
use Rattle.ra_progress.specs.Saying.{says}

-- the parts of a shape are within their types, and the set's own bytes are no longer than a file may be
pub record IsShape (shape : ShapeContents) : Type 0 where
  pub digest : IsName shape.digest
  pub cells : AllByRecursion IsName shape.cells
  pub priors : AllByRecursion IsName shape.priors
  pub entries : AllByRecursion IsName (entry_names shape)
  pub paired : IsPaired shape
  pub lines : (presence : PresenceShape) → shape.presence ≡ Some presence → presence.lines < 2 ^ 32
  pub short : length_of shape ≤ 8388608

-- a script has a line
abbrev pub HasLines : ShapeContents → Type 0
HasLines shape = (presence : PresenceShape) → shape.presence ≡ Some presence → 0 < presence.lines

-- the bytes of an opening are accepted, and say it again
pub record ComesBack (shape : ShapeContents) (o : Opening) : Type 0 where
  pub accepted : IsAccepted shape (progress_bytes shape o)
  pub this_set : of_this_set shape (progress_bytes shape o) ≡ true
  pub says_it : says shape (progress_bytes shape o) ≡ o
  pub long : length (progress_bytes shape o) ≡ length_of shape

-- the bytes are those that the set itself would write: version 3, of this set, with its names at their places
pub record IsOwn (shape : ShapeContents) (bytes : List ℕ) : Type 0 where
  pub version : version_in bytes ≡ 3
  pub this_set : of_this_set shape bytes ≡ true
  pub cells : map (λ n. n.name) (cells_in bytes) ≡ shape.cells
  pub priors : map (λ n. n.name) (priors_in bytes) ≡ shape.priors
  pub entries : map (λ entry. entry.name) (entries_in bytes) ≡ entry_names shape
