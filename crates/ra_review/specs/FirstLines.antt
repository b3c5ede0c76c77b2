-- The first line of each id: the step between the code and docs/DEFINITIONS.md, "Review of a set".
use Rattle.std.specs.Prelude.{◌≡◌, ℕ, ◌==◌, nat_lt, if◌then◌else◌, Option, None, Some, slice_index_or, unwrap_or}
use Rattle.std.specs.BTreeMap.{get}
use Rattle.std.specs.Ordering.{nat_cmp}
use Rattle.ra_review.specs.declared.first_lines.FirstLines.{FirstLines}

-- the first line that was noted for an id; those of low ids stand in a row
abbrev pub line_of : FirstLines → ℕ → Option ℕ
line_of lines id = if nat_lt id 1048576 then slice_index_or lines.low.items id None else get nat_cmp lines.high id

-- a line of an id was noted where none was, and the first one is told
pub record NotesLine (old : FirstLines) (id number : ℕ) (first : Option ℕ) (new : FirstLines) : Type 0 where
  pub first_was : first ≡ line_of old id
  pub noted : (other : ℕ) → line_of new other
      ≡ (if id == other then Some (unwrap_or first number) else line_of old other)
