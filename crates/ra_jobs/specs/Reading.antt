-- What reading a file on does: docs/DEFINITIONS.md, "Files and sinks".
use Rattle.std.specs.Prelude.{ℕ, ◌≡◌, ◌<◌, ◌≤◌, ◌+◌, Bool, true, false, List, ◌++◌, length, take, drop, Some}
use Rattle.std.specs.Prelude.{Option}

-- A read took n bytes more of the file's bytes, where these are told, and none only at their end.
pub record ReadsOn (content : Option (List ℕ)) (old new : List ℕ) (more : Bool) (n : ℕ) : Type 0 where
  pub longer : length new ≡ length old + n
  pub some : more ≡ true → 0 < n
  pub none : more ≡ false → n ≡ 0
  pub told : (bytes : List ℕ) → content ≡ Some bytes → new ≡ old ++ take n (drop (length old) bytes)
  pub ends : (bytes : List ℕ) → content ≡ Some bytes → more ≡ false → length bytes ≤ length old
