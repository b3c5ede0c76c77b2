-- Rows of flags.
use Rattle.std.specs.Prelude.{◌≡◌, ◌≢◌, ℕ, ◌+◌, ◌-◌, ◌*◌, ◌/◌, ◌%◌, ◌^◌, ◌<◌, ◌≤◌, Bool, true, false, List, length}
use Rattle.std.specs.Prelude.{slice_index, slice_index_or}
use Rattle.std.specs.Int.{bit_at}
use Rattle.ra_links.specs.FlatRows.{IsListed}

-- a flag that is set has its bit in its word, of 64 flags each
pub record AreWorded (flags : List Bool) (words : List ℕ) : Type 0 where
  pub enough : length flags < 64 * length words
  pub covered : (k : ℕ) → k < length flags → slice_index_or flags k true ≡ true
      → bit_at (slice_index words (k / 64)) (k % 64) ≡ 1

-- a word has one of its 64 bits as it is to be, if that is set, and of the others those that the old one has
pub record SetsBit (bit : ℕ) (set : Bool) (old new : ℕ) : Type 0 where
  pub here : set ≡ true → bit_at new bit ≡ 1
  pub others : (k : ℕ) → k < 64 → k ≢ bit → bit_at new k ≡ bit_at old k

-- a flag that is set stands in a block that is, of 64 flags each
pub record AreBlocked (flags blocks : List Bool) : Type 0 where
  pub enough : length flags < 64 * length blocks
  pub covered : (k : ℕ) → k < length flags → slice_index_or flags k true ≡ true
      → slice_index_or blocks (k / 64) true ≡ true

-- the same where there are no more blocks than flags take, and one
pub record AreInBlocks (flags blocks : List Bool) : Type 0 where
  pub tight : length blocks ≤ length flags / 64 + 1
  pub blocked : AreBlocked flags blocks

-- the flags from a place on and before another are set, and the others are what they were
pub record SetsBetween (from to : ℕ) (old new : List Bool) : Type 0 where
  pub long : length new ≡ length old
  pub set_there : (k : ℕ) → from ≤ k → k < to → slice_index_or new k true ≡ true
  pub before : (k : ℕ) → k < from → slice_index_or new k true ≡ slice_index_or old k true
  pub after : (k : ℕ) → to ≤ k → slice_index_or new k true ≡ slice_index_or old k true

-- all bits of the words from one on and before another are set, and the others are what they were
pub record FillsBetween (first end : ℕ) (old new : List ℕ) : Type 0 where
  pub long : length new ≡ length old
  pub full : (k : ℕ) → first ≤ k → k < end → slice_index new k ≡ 2 ^ 64 - 1
  pub before : (k : ℕ) → k < first → slice_index new k ≡ slice_index old k
  pub after : (k : ℕ) → end ≤ k → slice_index new k ≡ slice_index old k

-- some flags are set: each of these places has its flag, what is still not set was not, and what became set is one of
-- them
pub record SetsAll (places : List ℕ) (old new : List Bool) : Type 0 where
  pub long : length new ≡ length old
  pub kept : (k : ℕ) → slice_index_or new k true ≡ false → slice_index_or old k true ≡ false
  pub each : (k : ℕ) → IsListed k places → slice_index_or new k true ≡ true
  pub only : (k : ℕ) → slice_index_or old k true ≡ false → slice_index_or new k true ≡ true → IsListed k places

-- no flag from the place on and before the other is set
abbrev pub NoneSet : List Bool → (from to : ℕ) → Type 0
NoneSet flags from to = (k : ℕ) → from ≤ k → k < to → slice_index_or flags k true ≡ false

-- the first flag from a place on that is set
pub record IsFirstSet (flags : List Bool) (from n : ℕ) : Type 0 where
  pub after : from ≤ n
  pub within : n < length flags
  pub here : slice_index_or flags n true ≡ true
  pub none_before : NoneSet flags from n
