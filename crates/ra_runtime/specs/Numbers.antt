-- The numbers of a table after those of a progress file are put back: docs/DEFINITIONS.md, "What a runtime keeps".
use Rattle.std.specs.Prelude.{◌≡◌, ℕ, ◌<◌, true, List, length, replicate}
use Rattle.ra_memref.specs.Table.{TableSeen, SamePool}

-- a table has these numbers of its cells, which are marked where there are any, and all else stays
pub record TakesCells (old new : TableSeen) (numbers : List ℕ) : Type 0 where
  pub is : new ≡ record old { cells = numbers; sampled = new.sampled; marked = new.marked }
  pub marked : 0 < length numbers → new.marked ≡ replicate (length old.cells) true
  pub kept : length numbers ≡ 0 → new.marked ≡ old.marked

-- a table has these numbers of its masks, its cells are marked where there are any, and all else stays
pub record TakesPriors (old new : TableSeen) (numbers : List ℕ) : Type 0 where
  pub is : new ≡ record old { priors = numbers; sampled = new.sampled; marked = new.marked }
  pub marked : 0 < length numbers → new.marked ≡ replicate (length old.cells) true
  pub kept : length numbers ≡ 0 → new.marked ≡ old.marked

-- a table has these numbers of its cells and masks, all its cells are marked, and nodes, their values, size and places
-- stay
pub record TakesNumbers (old new : TableSeen) (cells priors : List ℕ) : Type 0 where
  pub pool : SamePool old new
  pub cells_too : new.cells ≡ cells
  pub priors_too : new.priors ≡ priors
  pub values : new.values ≡ old.values
  pub marked : new.marked ≡ replicate (length cells) true
  pub places : new.places ≡ old.places
