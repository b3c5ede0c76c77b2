-- Rows of which those in front of the first one with a number take no memory: docs/INTERNALS.md, "Flat rows".
use Rattle.std.specs.Prelude.{ℕ, ◌-◌, ◌<◌, ◌≤◌, List, length}
use Rattle.ra_links.specs.declared.entry.Entry.{Entry}
use Rattle.ra_links.specs.FlatRows.{entry_at}

-- each entry is for this row, or one after it
abbrev pub AreFrom : (first : ℕ) → List Entry → Type 0
AreFrom first entries = (k : ℕ) → k < length entries → first ≤ (entry_at entries k).row

-- an entry for the row that is this many further to the front
abbrev pub moved_by : (count : ℕ) → Entry → Entry
moved_by count entry = record { row = entry.row - count; number = entry.number }
