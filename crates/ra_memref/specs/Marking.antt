-- Which cells a write marks, page by page: docs/INTERNALS.md, "Marked and moved cells".
use Rattle.std.specs.Prelude.{ℕ, suc, ◌==◌, Bool, false, not, ◌&&◌, nat_le, nat_lt, Option, None, Some, List}
use Rattle.ra_memory.specs.Image.{raw}

-- what may be a page is one, and is this page
abbrev pub is_at : Option ℕ → ℕ → Bool
is_at None page = false
is_at (Some other) page = other == page

-- what may be a page is one, and is the page before this one
abbrev pub is_before : Option ℕ → ℕ → Bool
is_before None page = false
is_before (Some other) page = suc other == page

-- what may be a page is one, from the first on and before the last
abbrev pub is_between : ℕ → ℕ → Option ℕ → Bool
is_between first last None = false
is_between first last (Some page) = nat_le first page && nat_lt page last

-- a cell of this width at this place has another number in the image than this one
abbrev pub is_other : List ℕ → (width place number : ℕ) → Bool
is_other image width place number = not (raw width image place == number)
