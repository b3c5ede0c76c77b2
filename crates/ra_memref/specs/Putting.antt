-- What a table is after one of its kept numbers was set: docs/INTERNALS.md, "Marked and moved cells".
use Rattle.std.specs.Prelude.{◌≡◌, ℕ, true, false, List, length, replicate, slice_set}
use Rattle.ra_memref.specs.Table.{TableSeen, Agrees}

-- a cell's kept number is set: each cell is marked, and a sample is due before values count again; all else stays
pub record IsCellPut (old new : TableSeen) (cell number : ℕ) : Type 0 where
  pub is : new ≡ record old {
    cells = slice_set old.cells cell number;
    sampled = false;
    marked = replicate (length old.cells) true;
  }
  pub agrees : (image : List ℕ) → length image ≡ old.size → Agrees new image

-- a tracked mask's kept number is set: the same
pub record IsPriorPut (old new : TableSeen) (prior number : ℕ) : Type 0 where
  pub is : new ≡ record old {
    priors = slice_set old.priors prior number;
    sampled = false;
    marked = replicate (length old.cells) true;
  }
  pub agrees : (image : List ℕ) → length image ≡ old.size → Agrees new image
