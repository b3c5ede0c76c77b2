-- Numbers of 32 bits as words of four bytes, the least first: docs/DEFINITIONS.md, "Progress file".
use Rattle.std.specs.Prelude.{◌≡◌, ℕ, ◌+◌, ◌*◌, ◌<◌, ◌^◌, List, length, map, take, drop}
use Rattle.std.specs.List.{AllByRecursion, flat_map, range_with_len}
use Rattle.std.specs.Int.{w32, from_le_bytes, to_le_bytes}

-- the number of the four bytes at a place
abbrev pub word_at : List ℕ → ℕ → ℕ
word_at bytes at = from_le_bytes w32 (take 4 (drop at bytes))

-- the numbers of this many words in a row, from a place on
abbrev pub words_at : List ℕ → ℕ → ℕ → List ℕ
words_at bytes at count = map (λ k. word_at bytes (at + 4 * k)) (range_with_len 0 count)

-- the bytes of numbers, four for each, the least first
abbrev pub words : List ℕ → List ℕ
words numbers = flat_map (to_le_bytes w32) numbers

-- there are this many numbers, and each is of 32 bits
pub record AreWords (count : ℕ) (numbers : List ℕ) : Type 0 where
  pub as_many : length numbers ≡ count
  pub fit : AllByRecursion (λ n. n < 2 ^ 32) numbers
