-- What a read of a named file gives, and what a put leaves: docs/DEFINITIONS.md, "Files and sinks".
use Rattle.std.specs.Prelude.{◌≡◌, ◌≢◌, ℕ, ◌^◌, ◌<◌, ◌≤◌, Option, List, length, take, drop}
use Rattle.ra_io.specs.Causes.{NoneFell}

-- the most that the place and the room of a read are together
abbrev pub most_place : ℕ
most_place = 2 ^ 41

-- the first n bytes of the buffer are those of the file at that place, and none come only at its end or past it
pub record ReadsAt (bytes : List ℕ) (at n : ℕ) (buf : List ℕ) : Type 0 where
  pub read : take n buf ≡ take n (drop at bytes)
  pub within : 0 < n → at < length bytes
  pub ends : n ≡ 0 → 0 < length buf → length bytes ≤ at

-- no name's content changes
pub record SameContent (old new : List ℕ → Option (List ℕ)) : Type 0 where
  pub each : (name : List ℕ) → new name ≡ old name

-- no other name's content changes
pub record SameBut (changed : List ℕ) (old new : List ℕ → Option (List ℕ)) : Type 0 where
  pub each : (name : List ℕ) → name ≢ changed → new name ≡ old name

-- Files of which was read at most: no name's content changes, and no count of faults falls. It takes the ghost members
-- of the files.
pub record OnlyRead {F : Type 0} (content : F → List ℕ → Option (List ℕ))
    (read_faults put_faults : F → List ℕ → ℕ) (old new : F) : Type 0 where
  pub same : SameContent (content old) (content new)
  pub reads : NoneFell (read_faults old) (read_faults new)
  pub puts : NoneFell (put_faults old) (put_faults new)
