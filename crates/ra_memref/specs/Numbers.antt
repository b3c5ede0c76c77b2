-- What a pass works on: docs/DEFINITIONS.md, "Values at a frame".
use Rattle.std.specs.Prelude.{◌≡◌, ℕ, List, length}
use Rattle.ra_memref.specs.Watches.{WatchesSeen}

-- of each cell its number, the one of the frame before and its watch; of each tracked mask its prior; of each node its
-- number
pub record NumbersSeen : Type 0 where
  pub cells : List ℕ
  pub earlier : List ℕ
  pub watches : WatchesSeen
  pub priors : List ℕ
  pub values : List ℕ

-- each cell has a number of the frame before, a place and a mark
pub record HasRows (numbers : NumbersSeen) : Type 0 where
  pub earlier : length numbers.earlier ≡ length numbers.cells
  pub places : length numbers.watches.places ≡ length numbers.cells
  pub marked : length numbers.watches.marked ≡ length numbers.cells
