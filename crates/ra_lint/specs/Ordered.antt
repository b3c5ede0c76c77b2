-- A range that holds a number: docs/DEFINITIONS.md, "Ranges".
use Rattle.std.specs.Prelude.{ℕ, ◌<◌, ◌≤◌, List, length, slice_index_or}
use Rattle.ra_lint.specs.declared.range.Range.{Range}
use Rattle.ra_lint.specs.Ranges.{any_number}

-- the least number is no greater than the greatest
abbrev pub IsOrdered : Range → Type 0
IsOrdered r = r.least ≤ r.greatest

-- the range at a place
abbrev pub range_at : List Range → ℕ → Range
range_at ranges n = slice_index_or ranges n any_number

-- each of the ranges holds a number
abbrev pub AreOrdered : List Range → Type 0
AreOrdered ranges = (k : ℕ) → k < length ranges → IsOrdered (range_at ranges k)
