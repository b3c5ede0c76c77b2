-- Room for what a progress file says, which is made once for a shape: docs/DEFINITIONS.md, "Progress file".
use Rattle.std.specs.Prelude.{◌≡◌, ℕ, ◌+◌, ◌*◌, ◌≤◌, ◌==◌, Bool, false, List, length}
use Rattle.std.specs.Vec.{vec_capacity}
use Rattle.ra_progress.specs.declared.shape.Shape.{Shape}
use Rattle.ra_progress.specs.declared.said.Said.{Said}
use Rattle.ra_progress.specs.Contents.{ShapeContents, shape_contents, own_entries}
use Rattle.ra_progress.specs.Layout.{cells_in, priors_in, version_in}
use Rattle.ra_progress.specs.Reading.{of_this_set}
use Rattle.ra_progress.specs.Saying.{said_numbers, own_places}

-- there is room for a number of each of this many cells and tracked masks, and for a place of each of this many entries
pub record HasRoom (many_cells many_priors many_entries : ℕ) (said : Said) : Type 0 where
  pub cells : many_cells ≤ vec_capacity said.cells
  pub priors : many_priors ≤ vec_capacity said.priors
  pub places : many_entries ≤ vec_capacity said.places

-- there is room for a number of each cell and each tracked mask, and for a place of each own entry
abbrev pub IsRoom : ShapeContents → Said → Type 0
IsRoom shape = HasRoom (length shape.cells) (length shape.priors) (length (own_entries shape))

-- there is a number for each cell and each tracked mask, and a place for each own entry
pub record IsFilled (shape : ShapeContents) (said : Said) : Type 0 where
  pub cells : length said.cells.items ≡ length shape.cells
  pub priors : length said.priors.items ≡ length shape.priors
  pub places : length said.places.items ≡ length (own_entries shape)

-- the numbers and the places are those that the bytes say
pub record Says (shape : ShapeContents) (bytes : List ℕ) (said : Said) : Type 0 where
  pub cells : said.cells.items ≡ said_numbers shape bytes 29 shape.cells (cells_in bytes)
  pub priors : said.priors.items ≡ said_numbers shape bytes (29 + 4 * length shape.cells) shape.priors (priors_in bytes)
  pub places : said.places.items ≡ own_places shape bytes

-- it is told whether a file is of the set, if the file has names
abbrev pub IsToldOwn : Shape → List ℕ → Bool → Type 0
IsToldOwn shape bytes own = (version_in bytes == 1) ≡ false → own ≡ of_this_set (shape_contents shape) bytes
