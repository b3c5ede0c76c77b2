-- What truths are seen as, and what a frame makes of them: docs/INTERNALS.md, "Truths of comparisons".
use Rattle.std.specs.Prelude.{◌≡◌, ◌≢◌, ℕ, ◌<◌, ◌≤◌, Bool, true, false, List, length, slice_index, slice_index_or}
use Rattle.ra_memref.specs.Table.{TableSeen, IsListed}
use Rattle.ra_truths.specs.declared.comparison.Comparison.{Comparison}
use Rattle.ra_truths.specs.Comparisons.{truths_by}

-- the comparisons and how many nodes there are, the truths and which flipped at the last frame, and whether one was
-- taken
pub record TruthsSeen : Type 0 where
  pub comparisons : List Comparison
  pub nodes : ℕ
  pub truths : List Bool
  pub flipped : List ℕ
  pub known : Bool

-- each node that has another value than it had is listed, and nodes alone
pub record AreChanged (table : TableSeen) (values : List ℕ) : Type 0 where
  pub each : (n : ℕ) → n < length table.nodes → slice_index values n ≢ slice_index table.values n
      → IsListed n table.changed
  pub nodes : (k : ℕ) → k < length table.changed → slice_index table.changed k < length table.nodes

-- the truths are those by some values, and the table lists each node that has another value now
pub record IsTold (comparisons : List Comparison) (truths : List Bool) (table : TableSeen) : Type 0 where
  pub values : List ℕ
  pub were : truths ≡ truths_by values comparisons
  pub changed : AreChanged table values

-- the truths are those by the values of the table, and exactly those that flipped are listed
pub record Takes (old new : TruthsSeen) (table : TableSeen) : Type 0 where
  pub comparisons : new.comparisons ≡ old.comparisons
  pub nodes : new.nodes ≡ old.nodes
  pub known : new.known ≡ true
  pub truths : new.truths ≡ truths_by table.values old.comparisons
  pub each : (k : ℕ) → slice_index_or old.truths k false ≢ slice_index_or new.truths k false → IsListed k new.flipped
  pub only : (k : ℕ) → IsListed k new.flipped
      → (k < length old.comparisons) × (slice_index_or old.truths k false ≢ slice_index_or new.truths k false)
  pub few : length new.flipped ≤ length old.comparisons

-- none of these comparisons is listed
abbrev pub HasNone : (flipped numbers : List ℕ) → Type 0
HasNone flipped numbers = (k : ℕ) → IsListed k numbers → IsListed k flipped → ⊥
