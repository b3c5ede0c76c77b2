-- What `save` gives: docs/DEFINITIONS.md, "Progress file".
use Rattle.std.specs.Prelude.{◌≡◌, ℕ, List}
use Rattle.ra_set.specs.Contents.{SetContents}
use Rattle.ra_progress.specs.Contents.{Opening, IsOpening}
use Rattle.ra_progress.specs.Spelling.{progress_bytes}
use Rattle.ra_meaning.specs.Order.{shape_of}

-- the bytes are those of an opening of the set
pub record IsSaved (set : SetContents) (bytes : List ℕ) : Type 0 where
  pub kept : Opening
  pub opening : IsOpening (shape_of set) kept
  pub is : bytes ≡ progress_bytes (shape_of set) kept
