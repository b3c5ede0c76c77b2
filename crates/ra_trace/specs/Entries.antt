-- The records of a trace and their bytes: docs/DEFINITIONS.md, "Trace file".
use Rattle.std.specs.Prelude.{ℕ, ◌^◌, List, [], ◌∷◌, ◌++◌, length, codes}
use Rattle.std.specs.List.{flat_map}
use Rattle.std.specs.Int.{w16, w32, to_le_bytes}
use Rattle.ra_trace.specs.declared.record.Record.{Record}
use Rattle.ra_trace.specs.declared.record.Record.TheVariants.{Write, Frame, Save, Restore, Show, End}

-- the most bytes of a memory
abbrev pub most_memory : ℕ
most_memory = 2 ^ 27

-- the greatest number of a slot
abbrev pub last_slot : ℕ
last_slot = 15

-- a record of a trace
pub data Entry : Type 0 where
  Written : (at : ℕ) → (bytes : List ℕ) → Entry
  Framed : Entry
  Saved : (slot : ℕ) → Entry
  Restored : (slot : ℕ) → Entry
  Shown : Entry
  Ended : Entry

-- the contents of a record that was read
abbrev pub entry_of : Record → Entry
entry_of (Write at bytes) = Written at bytes.now
entry_of Frame = Framed
entry_of (Save slot) = Saved slot
entry_of (Restore slot) = Restored slot
entry_of Show = Shown
entry_of End = Ended

-- the bytes of a record: its letter, and numbers the least byte first
abbrev pub entry_bytes : Entry → List ℕ
entry_bytes (Written at bytes) = 87 ∷ (to_le_bytes w32 at ++ (to_le_bytes w16 (length bytes) ++ bytes))
entry_bytes Framed = 70 ∷ []
entry_bytes (Saved slot) = 83 ∷ slot ∷ []
entry_bytes (Restored slot) = 82 ∷ slot ∷ []
entry_bytes Shown = 80 ∷ []
entry_bytes Ended = 69 ∷ []

-- the header of a trace: its mark, the version, and the size of the memory
abbrev pub header_bytes : ℕ → List ℕ
header_bytes size = codes "RATR" ++ 1 ∷ to_le_bytes w32 size

-- the trace file of a memory size and records
abbrev pub trace_bytes : ℕ → List Entry → List ℕ
trace_bytes size entries = header_bytes size ++ flat_map entry_bytes entries
