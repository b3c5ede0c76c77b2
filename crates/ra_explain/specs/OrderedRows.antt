-- Rows of comparisons one after the other, the oldest first: docs/DEFINITIONS.md, "Explanations".
use Rattle.std.specs.Prelude.{◌≡◌, ℕ, ◌+◌, ◌*◌, ◌≤◌, Bool, List, length}
use Rattle.std.specs.List.{AllByRecursion, flat_map}
use Rattle.ra_condition.specs.Contents.{TriggerContents, trigger_hits}

-- the row of an index is within a list
abbrev pub LiesWithin : (width : ℕ) → List Bool → ℕ → Type 0
LiesWithin width truths index = index * width + width ≤ length truths

-- rows in one list
abbrev pub joined : List (List Bool) → List Bool
joined rows = flat_map (λ row. row) rows

-- the rows of a trigger up to the last one
pub record AreRows (t : TriggerContents) (last : ℕ) (rows : List (List Bool)) : Type 0 where
  pub count : length rows ≡ last + 1
  pub width : AllByRecursion (λ row. length row ≡ trigger_hits t) rows
