-- Readers while they are noted: docs/INTERNALS.md, "Readers of nodes".
use Rattle.std.specs.Prelude.{◌≡◌, ℕ, zero, suc, ◌-◌, ◌<◌, true, Option, None, Some, List, length, replicate}
use Rattle.std.specs.Prelude.{slice_get, slice_index_or}
use Rattle.ra_links.specs.declared.entry.Entry.{Entry}
use Rattle.ra_links.specs.FlatRows.{AreOnRows, entry_at, numbers_on, rows_by}
use Rattle.ra_schedule.specs.Readers.{ReadersSeen}

-- the reader that a number stands for, which is one more, or 0 for none
abbrev pub reader_of : ℕ → Option ℕ
reader_of zero = None
reader_of (suc n) = Some n

-- entries of nodes and readers are seen as rows, one for each node, and all readers are due
abbrev pub noted_seen : List Entry → (lasts : List (Option ℕ)) → (readers : ℕ) → ReadersSeen
noted_seen entries lasts readers = record { rows = rows_by (length lasts) entries; due = replicate readers true }

-- the last number of a list, if it has one
abbrev pub last_of : List ℕ → Option ℕ
last_of numbers = slice_get numbers (length numbers - 1)

-- each entry is of a node and a reader, and for each node its last reader is known
pub record AreNoted (entries : List Entry) (lasts : List (Option ℕ)) (readers : ℕ) : Type 0 where
  pub rows : AreOnRows (length lasts) entries
  pub readers_too : (k : ℕ) → k < length entries → (entry_at entries k).number < readers
  pub lasts_too : (node : ℕ) → node < length lasts → slice_index_or lasts node None ≡ last_of (numbers_on node entries)
