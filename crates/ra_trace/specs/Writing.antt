-- What a writer of a trace is seen as, and the records that it wrote: docs/DEFINITIONS.md, "Trace file".
use Rattle.std.specs.Prelude.{◌≡◌, ℕ, ◌≤◌, List, [], ◌∷◌, ◌++◌, All}
use Rattle.std.specs.List.{flat_map}
use Rattle.ra_trace.specs.Entries.{Entry, entry_bytes, trace_bytes, most_memory}
use Rattle.ra_trace.specs.Rules.{Fits}

-- what a caller sees of a writer: the memory size, and the bytes so far
pub record WriterSeen : Type 0 where
  pub size : ℕ
  pub bytes : List ℕ

-- the writer with one record more
abbrev pub with_record : WriterSeen → Entry → WriterSeen
with_record old entry = record old { bytes = old.bytes ++ entry_bytes entry }

-- the writer with these records more
abbrev pub with_records : WriterSeen → List Entry → WriterSeen
with_records old entries = record old { bytes = old.bytes ++ flat_map entry_bytes entries }

-- a writer has written these records, each within the rules
pub record Wrote (writer : WriterSeen) (entries : List Entry) : Type 0 where
  pub small : writer.size ≤ most_memory
  pub fit : All (Fits writer.size) entries
  pub bytes : writer.bytes ≡ trace_bytes writer.size entries

-- the writer has written one record more, whatever records it had written
abbrev pub Adds : Entry → WriterSeen → WriterSeen → Type 0
Adds entry old new = (entries : List Entry) → Wrote old entries → Wrote new (entries ++ entry ∷ [])
