-- What is left of a trace at a moment: docs/DEFINITIONS.md, "Trace file" and "Frames that lie behind".
use Rattle.std.specs.Prelude.{◌≡◌, ℕ, suc, ◌≤◌, ◌^◌, nat_le, Some, None, is_some, List, length, map, slice_index_or}
use Rattle.ra_trace.specs.Cutting.{Pieces, Stop, cut, stop_within}
use Rattle.ra_trace.specs.Entries.{Entry, Restored}
use Rattle.ra_trace.specs.Reading.{ReaderSeen, Holds, seen_from}
use Rattle.ra_meaning.specs.Play.{Moment}

-- the most bytes that are taken of a trace
abbrev pub trace_limit : ℕ
trace_limit = 2 ^ 40

-- the record is a restore of a slot that is empty at the moment
abbrev pub IsEmptySlot : Entry → Moment → Type 0
IsEmptySlot (Restored slot) m = slice_index_or m.slots slot None ≡ None
IsEmptySlot _ m = ⊥

-- These records are left of the trace at a moment, from where the reader stands.
pub record IsLeft (bytes : List ℕ) (m : Moment) (reader : ReaderSeen) (left : Pieces) : Type 0 where
  pub size : ℕ
  pub sized : reader.size ≡ Some size
  pub limit : reader.limit ≡ trace_limit
  pub holds : Holds reader bytes
  pub more : ℕ
  pub enough : length (seen_from trace_limit reader.next bytes) ≤ more
  pub is : left ≡ cut (suc more) size (map is_some m.slots) reader.next (seen_from trace_limit reader.next bytes)

-- how the records that are left of a trace file end it
abbrev pub stop_of : (bytes : List ℕ) → Pieces → Stop
stop_of bytes left = stop_within (nat_le trace_limit (length bytes)) left.stop
