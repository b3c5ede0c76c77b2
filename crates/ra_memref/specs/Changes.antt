-- Which nodes a frame gave another number: docs/INTERNALS.md, "Due nodes".
use Rattle.std.specs.Prelude.{◌≢◌, ℕ, ◌<◌, ◌≤◌, Bool, if◌then◌else◌, List, [], ◌∷◌, ◌++◌, length, slice_index}
use Rattle.ra_memref.specs.Table.{IsListed}

-- the listed nodes, and how many there is room for
pub record ChangesSeen : Type 0 where
  pub listed : List ℕ
  pub room : ℕ

-- the listed nodes, once one was noted that changed or not
abbrev pub noted : List ℕ → ℕ → Bool → List ℕ
noted listed node changed = if changed then listed ++ node ∷ [] else listed

-- each of this many nodes that has another number now is listed, and only nodes are, no more than were looked at
pub record AreNoted (count at : ℕ) (old new listed : List ℕ) : Type 0 where
  pub each : (n : ℕ) → slice_index old n ≢ slice_index new n → IsListed n listed
  pub nodes : (k : ℕ) → k < length listed → slice_index listed k < count
  pub few : length listed ≤ at
