-- Counts of faults: docs/DEFINITIONS.md, "Counts of faults".
use Rattle.std.specs.Prelude.{ℕ, ◌+◌, ◌-◌, ◌^◌, ◌≤◌, min, List}

-- the count after one more; at the last value of its type it stands still
abbrev pub next_count : ℕ → ℕ
next_count count = min (count + 1) (2 ^ 64 - 1)

-- a count rose: it is greater now than before, or stands at the last value of its type
abbrev pub Rose : ℕ → ℕ → Type 0
Rose before now = next_count before ≤ now

-- no count of a name fell
pub record NoneFell (before now : List ℕ → ℕ) : Type 0 where
  pub each : (name : List ℕ) → before name ≤ now name
