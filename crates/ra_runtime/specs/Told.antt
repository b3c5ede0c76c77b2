-- What a call tells of a frame's lines and reads: docs/DEFINITIONS.md, "Printed lines" and "Marked and moved cells".
use Rattle.std.specs.Prelude.{◌≡◌, ℕ, ◌-◌, ◌^◌, min, List, ◌++◌}
use Rattle.ra_meaning.specs.Runtime.{RuntimeSeen, ReadsFew}

-- The text grew by a front of some lines.
pub record GrewByFront (old new lines : List ℕ) : Type 0 where
  pub front : List ℕ
  pub rest : List ℕ
  pub whole : front ++ rest ≡ lines
  pub grew : new ≡ old ++ front

-- A frame read the cells that were marked or moved, and this is how many reads it took; the count stops at the last
-- number of 64 bits.
pub record CountsReads (old new : RuntimeSeen) (count : ℕ) : Type 0 where
  pub reads : ℕ
  pub few : ReadsFew old new reads
  pub counted : count ≡ min reads (2 ^ 64 - 1)
