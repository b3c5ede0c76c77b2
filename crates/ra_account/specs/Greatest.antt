-- The least and the greatest of the numbers of frames: docs/DEFINITIONS.md, "Account of an achievement". A list has an
-- entry for each frame, the newest first.
use Rattle.std.specs.Prelude.{ℕ, max, min, ◌==◌, List, [], ◌∷◌, map}
use Rattle.ra_account.specs.Counting.{first_of}
use Rattle.ra_account.specs.declared.best.Best.{Best}
use Rattle.ra_account.specs.declared.range.Range.{Range}

-- the greatest number; 0 where there is none
abbrev pub greatest_of : List ℕ → ℕ
greatest_of [] = 0
greatest_of (now ∷ earlier) = max now (greatest_of earlier)

-- the least number; the greatest of 32 bits where there is none
abbrev pub least_of : List ℕ → ℕ
least_of [] = 4294967295
least_of (now ∷ earlier) = min now (least_of earlier)

-- the greatest number, and the first frame that has it
abbrev pub best_of : List ℕ → Best
best_of numbers = record { total = greatest_of numbers; at = first_of (map (λ n. n == greatest_of numbers) numbers) }

-- the least and the greatest number
abbrev pub range_of : List ℕ → Range
range_of numbers = record { least = least_of numbers; greatest = greatest_of numbers }
