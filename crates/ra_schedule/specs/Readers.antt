-- Who reads a node, and who is due: docs/INTERNALS.md, "Readers of nodes".
use Rattle.std.specs.Prelude.{◌≡◌, ◌⊎◌, ℕ, ◌-◌, ◌<◌, Bool, true, false, Some, List, [], length, replicate, slice_get}
use Rattle.std.specs.Prelude.{slice_index_or}
pub use Rattle.ra_memref.specs.Table.{IsListed}

-- for each node the readers that are noted for it, and for each reader whether it is due
pub record ReadersSeen : Type 0 where
  pub rows : List (List ℕ)
  pub due : List Bool

-- readers that are all due
abbrev pub all_woken : ReadersSeen → ReadersSeen
all_woken readers = record readers { due = replicate (length readers.due) true }

-- a number is the last of a list
abbrev pub IsLast : (n : ℕ) → List ℕ → Type 0
IsLast n numbers = slice_get numbers (length numbers - 1) ≡ Some n

-- a reader reads a node
abbrev pub Reads : ReadersSeen → (node reader : ℕ) → Type 0
Reads readers node reader = IsListed reader (slice_index_or readers.rows node [])

-- whoever reads a node is one of the readers
abbrev pub AreWithin : ReadersSeen → Type 0
AreWithin readers = (node reader : ℕ) → Reads readers node reader → reader < length readers.due

-- one more reader of a node is noted, none is lost, and no other is noted
pub record Notes (node reader : ℕ) (old new : ReadersSeen) : Type 0 where
  pub noted : Reads new node reader
  pub kept : (n r : ℕ) → Reads old n r → Reads new n r
  pub only : (n r : ℕ) → Reads new n r → Reads old n r ⊎ ((n ≡ node) × (r ≡ reader))
  pub rows : length new.rows ≡ length old.rows
  pub due : new.due ≡ old.due

-- a reader reads one of these nodes
pub record ReadsOne (readers : ReadersSeen) (nodes : List ℕ) (reader : ℕ) : Type 0 where
  pub node : ℕ
  pub listed : IsListed node nodes
  pub reads : Reads readers node reader

-- who reads one of these nodes is due, who is still not due was not, and who became due reads one
pub record Wakes (nodes : List ℕ) (old new : ReadersSeen) : Type 0 where
  pub rows : new.rows ≡ old.rows
  pub long : length new.due ≡ length old.due
  pub kept : (r : ℕ) → slice_index_or new.due r true ≡ false → slice_index_or old.due r true ≡ false
  pub woken : (r n : ℕ) → IsListed n nodes → Reads old n r → slice_index_or new.due r true ≡ true
  pub only : (r : ℕ) → slice_index_or old.due r true ≡ false → slice_index_or new.due r true ≡ true
      → ReadsOne old nodes r
