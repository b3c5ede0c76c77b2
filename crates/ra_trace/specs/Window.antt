-- The bytes that a reader of a trace holds of its file: docs/INTERNALS.md, "Reading a trace".
use Rattle.std.specs.Prelude.{◌≡◌, ℕ, ◌+◌, ◌<◌, ◌≤◌, Option, Some, List, ◌++◌, length, take, drop}

-- how many bytes a window has room for
abbrev pub room_of : ℕ
room_of = 131072

-- a window holds no more bytes than it has room for
pub record IsWindow (room held : ℕ) : Type 0 where
  pub buffer : room ≡ room_of
  pub within : held ≤ room

-- n bytes were read after those that were held, from a place of the file on, and none only at its end where some might
-- have come
pub record ReadsBehind (content : Option (List ℕ)) (at most n : ℕ) (old new : List ℕ) : Type 0 where
  pub fewer : n ≤ most
  pub long : length new ≡ length old + n
  pub bytes : (bytes : List ℕ) → content ≡ Some bytes → new ≡ old ++ take n (drop at bytes)
  pub there : (bytes : List ℕ) → content ≡ Some bytes → 0 < n → at + n ≤ length bytes
  pub ends : (bytes : List ℕ) → content ≡ Some bytes → n ≡ 0 → 0 < most → length old < room_of → length bytes ≤ at
