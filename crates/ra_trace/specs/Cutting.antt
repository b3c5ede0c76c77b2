-- How a trace file is cut into its records, up to the end record or to the first refusal: docs/DEFINITIONS.md, "Trace
-- file".
use Rattle.std.specs.Prelude.{ℕ, zero, suc, ◌+◌, ◌&&◌, Bool, true, false, if◌then◌else◌, nat_lt, nat_le, ◌==◌, Option}
use Rattle.std.specs.Prelude.{None, Some, List, [], ◌∷◌, ◌++◌, length, take, drop, replicate, bytes_eq, codes}
use Rattle.std.specs.Prelude.{slice_index, slice_index_or, slice_set}
use Rattle.std.specs.Int.{w16, w32, from_le_bytes}
use Rattle.ra_trace.specs.declared.error.Why.{Why}
use Rattle.ra_trace.specs.declared.error.Why.TheVariants.{Header, Kind, Cut, PastMemory, Slot, EmptySlot}
use Rattle.ra_trace.specs.Entries.{Entry, Written, Framed, Saved, Restored, Shown, Ended, entry_bytes, last_slot}
use Rattle.ra_trace.specs.Entries.{most_memory}

-- where a trace stops: its end record, a refusal with its place and reason, or the limit of the reader
pub data Stop : Type 0 where
  Reached : (at : ℕ) → Stop
  RefusedAt : (at : ℕ) → (why : Why) → Stop
  PastLimit : Stop

-- a trace that is cut: the size of the memory, the records, and why they end
pub record Trace : Type 0 where
  pub size : ℕ
  pub entries : List Entry
  pub stop : Stop

-- the memory size that a header says, if it is a good one
abbrev pub header_size : List ℕ → Option ℕ
header_size bytes =
    if bytes_eq (take 5 bytes) (codes "RATR" ++ 1 ∷ [])
    && (nat_le 9 (length bytes) && nat_le (from_le_bytes w32 (take 4 (drop 5 bytes))) most_memory)
    then Some (from_le_bytes w32 (take 4 (drop 5 bytes)))
    else None

-- the place that a write record says, in the bytes after its letter
abbrev pub place_in : List ℕ → ℕ
place_in rest = from_le_bytes w32 (take 4 rest)

-- how many bytes a write record says that it has, in the bytes after its letter
abbrev pub count_in : List ℕ → ℕ
count_in rest = from_le_bytes w16 (take 2 (drop 4 rest))

-- why no write record stands here, after its letter, in a memory of this size
abbrev pub write_refusal : ℕ → List ℕ → Option Why
write_refusal size rest =
    if nat_lt (length rest) 6 then Some Cut
    else if nat_lt (length rest) (6 + count_in rest) then Some Cut
    else if nat_lt size (place_in rest + count_in rest) then Some PastMemory
    else None

-- why no save record stands here, after its letter
abbrev pub save_refusal : List ℕ → Option Why
save_refusal [] = Some Cut
save_refusal (slot ∷ rest) = if nat_lt last_slot slot then Some Slot else None

-- why no restore record stands here, after its letter, by the slots that are filled
abbrev pub restore_refusal : List Bool → List ℕ → Option Why
restore_refusal filled [] = Some Cut
restore_refusal filled (slot ∷ rest) =
    if nat_lt last_slot slot then Some Slot else if slice_index_or filled slot false then None else Some EmptySlot

-- why no record stands at the front of these bytes, by their letter
abbrev pub refusal : ℕ → List Bool → List ℕ → Option Why
refusal size filled [] = Some Cut
refusal size filled (mark ∷ rest) =
    if mark == 87 then write_refusal size rest
    else if mark == 83 then save_refusal rest
    else if mark == 82 then restore_refusal filled rest
    else if mark == 70 then None
    else if mark == 80 then None
    else if mark == 69 then None
    else Some Kind

-- the record at the front of bytes at which nothing is refused
abbrev pub front : List ℕ → Entry
front [] = Ended
front (mark ∷ rest) =
    if mark == 87 then Written (place_in rest) (take (count_in rest) (drop 6 rest))
    else if mark == 83 then Saved (slice_index rest 0)
    else if mark == 82 then Restored (slice_index rest 0)
    else if mark == 70 then Framed
    else if mark == 80 then Shown
    else Ended

-- the slots that are filled after a record
abbrev pub filled_after : Entry → List Bool → List Bool
filled_after (Saved slot) filled = slice_set filled slot true
filled_after _ filled = filled

-- records from a place on, and where they stop
pub record Pieces : Type 0 where
  pub entries : List Entry
  pub stop : Stop

-- a record in front of what is cut after it
abbrev pub with_entry : Entry → Pieces → Pieces
with_entry entry cut = record { entries = entry ∷ cut.entries; stop = cut.stop }

-- a record and what follows it, which `next` cuts on; nothing after the end record is looked at
abbrev pub cut_behind : (List Bool → ℕ → List ℕ → Pieces) → Entry → List Bool → ℕ → List ℕ → Pieces
cut_behind next Ended filled at bytes = record { entries = Ended ∷ []; stop = Reached at }
cut_behind next entry filled at bytes =
    let count = length (entry_bytes entry) in
    with_entry entry (next (filled_after entry filled) (at + count) (drop count bytes))

-- what is cut from here: the refusal, or the record and what follows it
abbrev pub cut_unless : (List Bool → ℕ → List ℕ → Pieces) → Option Why → List Bool → ℕ → List ℕ → Pieces
cut_unless next (Some why) filled at bytes = record { entries = []; stop = RefusedAt at why }
cut_unless next None filled at bytes = cut_behind next (front bytes) filled at bytes

-- the records from a place on, as many as this number at most; no bytes have more records than bytes
abbrev pub cut : ℕ → ℕ → List Bool → ℕ → List ℕ → Pieces
cut zero size filled at bytes = record { entries = []; stop = RefusedAt at Cut }
cut (suc more) size filled at bytes = cut_unless (cut more size) (refusal size filled bytes) filled at bytes

-- the trace of a file by the size that its header says, if that is a good one
abbrev pub trace_behind : List Bool → Option ℕ → List ℕ → Trace
trace_behind filled None bytes = record { size = 0; entries = []; stop = RefusedAt 0 Header }
trace_behind filled (Some size) bytes =
    let records = cut (suc (length bytes)) size filled 9 (drop 9 bytes) in
    record { size = size; entries = records.entries; stop = records.stop }

-- the trace of a file, where these slots are filled
abbrev pub trace_with : List Bool → List ℕ → Trace
trace_with filled bytes = trace_behind filled (header_size bytes) bytes

-- no slot is filled before the first record
abbrev pub no_slots : List Bool
no_slots = replicate 16 false

-- the trace of a file, where no slot is filled before its first record
abbrev pub trace_of : List ℕ → Trace
trace_of bytes = trace_with no_slots bytes

-- where a reader stops: a cut record is past its limit, if it has taken as many bytes as it may
abbrev pub stop_within : Bool → Stop → Stop
stop_within full (RefusedAt at Cut) = if full then PastLimit else RefusedAt at Cut
stop_within full stop = stop

-- the trace of a file for a reader that takes no more bytes than the limit
abbrev pub trace_within : ℕ → List Bool → List ℕ → Trace
trace_within limit filled bytes =
    let trace = trace_with filled (take limit bytes) in
    record trace { stop = stop_within (nat_le limit (length bytes)) trace.stop }
