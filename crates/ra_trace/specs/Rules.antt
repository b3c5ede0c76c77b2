-- The records that a trace may hold before its end, and the trace that they are: docs/DEFINITIONS.md, "Trace file".
use Rattle.std.specs.Prelude.{◌≡◌, ℕ, ◌+◌, ◌≤◌, ⊤, Bool, true, false, List, [], ◌∷◌, ◌++◌, length, slice_index_or}
use Rattle.ra_trace.specs.Entries.{Entry, Written, Framed, Saved, Restored, Shown, Ended, trace_bytes, last_slot}
use Rattle.ra_trace.specs.Cutting.{Trace, Reached, filled_after}

-- the record is no end and keeps the rules: a write fits the memory, and a slot is one of the sixteen
abbrev pub Fits : ℕ → Entry → Type 0
Fits size (Written at bytes) = (at + length bytes ≤ size) × (length bytes ≤ 65535)
Fits size Framed = ⊤
Fits size (Saved slot) = slot ≤ last_slot
Fits size (Restored slot) = slot ≤ last_slot
Fits size Shown = ⊤
Fits size Ended = ⊥

-- the record takes a filled slot, if it is a restore
abbrev pub TakesFilled : List Bool → Entry → Type 0
TakesFilled filled (Restored slot) = slice_index_or filled slot false ≡ true
TakesFilled filled _ = ⊤

-- each restore takes a slot that is filled before the first record or by a save before it
abbrev pub AllTakeFilled : List Bool → List Entry → Type 0
AllTakeFilled filled [] = ⊤
AllTakeFilled filled (entry ∷ more) = TakesFilled filled entry × AllTakeFilled (filled_after entry filled) more

-- the trace of these records and the end record after them
abbrev pub whole_trace : ℕ → List Entry → Trace
whole_trace size entries =
    record { size = size; entries = entries ++ Ended ∷ []; stop = Reached (length (trace_bytes size entries)) }
