-- What a frame does to a value, in the words of its parts: docs/DEFINITIONS.md, "Values over frames".
use Rattle.std.specs.Prelude.{◌≡◌, ℕ, ◌<◌, ◌^◌, List, length, slice_index, ℤ}
use Rattle.std.specs.Int.{w32, cast_signed}
use Rattle.std.specs.Int.Signed.{◌≤ℤ◌}

-- each number fits 32 bits
pub record AreWords (numbers : List ℕ) : Type 0 where
  pub at : (k : ℕ) → slice_index numbers k < 2 ^ 32

-- the signed number is that of one of the numbers, and none has a greater
pub record IsSignedGreatest (numbers : List ℕ) (n : ℤ) : Type 0 where
  pub place : ℕ
  pub within : place < length numbers
  pub number : n ≡ cast_signed w32 (slice_index numbers place)
  pub above : (k : ℕ) → k < length numbers → cast_signed w32 (slice_index numbers k) ≤ℤ n
