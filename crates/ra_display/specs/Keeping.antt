-- Numbers that are written over a row of bytes: docs/DEFINITIONS.md, "States kept in memory".
use Rattle.std.specs.Prelude.{◌≡◌, ℕ, ◌+◌, ◌*◌, ◌≤◌, Bool, Option, None, Some, List, ◌++◌, length, take}
use Rattle.ra_text.specs.Words.{words}
use Rattle.ra_schedule.specs.Counted.{owed_by, owed_rows_by}
use Rattle.ra_member.specs.MemberRuns.{FitWords}

-- a piece is written over a row from a place on, and the next place is the one after it; what stands in front of it
-- stays
pub record PutsOver (old new : List ℕ) (at next : ℕ) (piece : List ℕ) : Type 0 where
  pub front : take next new ≡ take at old ++ piece
  pub next_is : next ≡ at + length piece
  pub long : length new ≡ length old

-- numbers of 32 bits are written so, as words of four bytes
pub record PutsWords (old new : List ℕ) (at next : ℕ) (numbers : List ℕ) : Type 0 where
  pub puts : PutsOver old new at next (words numbers)
  pub fit : FitWords numbers

-- a row has room for numbers from a place on
abbrev pub HasWords : List ℕ → (at : ℕ) → List ℕ → Type 0
HasWords row at numbers = at + 4 * length numbers ≤ length row

-- hits as they are seen: with those that are owed for this many frames where a condition counts, or as they are where
-- none are
abbrev pub seen_hits : Option ℕ → List Bool → (hits : List ℕ) → List ℕ
seen_hits None counted hits = hits
seen_hits (Some frames) counted hits = owed_by frames counted hits

-- rows of hits as they are seen
abbrev pub seen_rows : Option ℕ → List (List Bool) → (hits : List (List ℕ)) → List (List ℕ)
seen_rows None counted hits = hits
seen_rows (Some frames) counted hits = owed_rows_by frames counted hits
