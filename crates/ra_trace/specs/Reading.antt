-- What a reader of a trace is seen as, and what stands next in a file: docs/INTERNALS.md, "Reading a trace".
use Rattle.std.specs.Prelude.{◌≡◌, ℕ, ◌+◌, ◌-◌, ◌^◌, ◌<◌, ◌≤◌, ◌⊎◌, ⊤, Bool, true, false, if◌then◌else◌, nat_le, ◌==◌}
use Rattle.std.specs.Prelude.{min, Option, option_map, is_some, None, Some, List, [], length, take, drop, replicate}
use Rattle.ra_io.specs.Causes.{Rose}
use Rattle.ra_trace.specs.declared.error.Why.{Why}
use Rattle.ra_trace.specs.declared.error.Why.TheVariants.{Header, Cut}
use Rattle.ra_trace.specs.declared.error.TraceError.{TraceError}
use Rattle.ra_trace.specs.declared.error.TraceError.TheVariants as errors
use Rattle.ra_trace.specs.Entries.{Entry, Written, Saved, Restored, entry_bytes, last_slot}
use Rattle.ra_trace.specs.Cutting.{Stop, RefusedAt, PastLimit, header_size, refusal, front, stop_within}

-- what a caller sees of a reader: the name of its file, its limit, and how far it is
pub record ReaderSeen : Type 0 where
  pub name : List ℕ
  pub limit : ℕ
  -- the memory size, once the header was read
  pub size : Option ℕ
  -- where the last record starts, and the next one
  pub last : ℕ
  pub next : ℕ
  -- the place up to which it has read, and the bytes that it holds, which end there
  pub taken : ℕ
  pub held : List ℕ

-- the most bytes that a reader takes
abbrev pub most_bytes : ℕ
most_bytes = 2 ^ 40

-- a reader that has read nothing
abbrev pub opened : List ℕ → ℕ → ReaderSeen
opened name limit = record { name = name; limit = limit; size = None; last = 0; next = 0; taken = 0; held = [] }

-- what a reader has not answered yet is among the bytes that it holds, and those lie within its limit
pub record IsInside (held limit taken next : ℕ) : Type 0 where
  pub most : limit ≤ most_bytes
  pub within : taken ≤ limit
  pub fewer : held ≤ taken
  pub behind : next ≤ taken
  pub there : taken ≤ next + held

-- the bytes that a reader holds of what it has not answered yet
abbrev pub unanswered : ReaderSeen → List ℕ
unanswered reader = drop (length reader.held - (reader.taken - reader.next)) reader.held

-- a reader that has moved past a next record of this many bytes
abbrev pub passed : ℕ → ReaderSeen → ReaderSeen
passed count reader = record reader { last = reader.next; next = reader.next + count }

-- the bytes that the reader holds are those of the file at their places
pub record Holds (reader : ReaderSeen) (bytes : List ℕ) : Type 0 where
  pub within : reader.taken ≤ length bytes
  pub behind : length reader.held ≤ reader.taken
  pub held : reader.held ≡ take (length reader.held) (drop (reader.taken - length reader.held) bytes)

-- name and limit of the reader stay
pub record SameReader (old new : ReaderSeen) : Type 0 where
  pub name : new.name ≡ old.name
  pub limit : new.limit ≡ old.limit

-- the reader has read on, or nothing more may be seen of the file; what it has not answered yet stays before it
pub record ReadsOn (content : Option (List ℕ)) (more : Bool) (old new : ReaderSeen) : Type 0 where
  pub same : SameReader old new
  pub sized : new.size ≡ old.size
  pub last : new.last ≡ old.last
  pub next : new.next ≡ old.next
  pub inside : IsInside (length new.held) new.limit new.taken new.next
  pub later : old.taken ≤ new.taken
  pub on : more ≡ true → old.taken < new.taken
  pub holds : (bytes : List ℕ) → content ≡ Some bytes → Holds old bytes → Holds new bytes
  pub end : (bytes : List ℕ) → content ≡ Some bytes → Holds old bytes → more ≡ false → new.taken
      ≡ min new.limit (length bytes)

-- the reader holds the front of the file: as long as a header, or all that may be seen of it
pub record ReadsFront (content : Option (List ℕ)) (old new : ReaderSeen) : Type 0 where
  pub same : SameReader old new
  pub sized : new.size ≡ None
  pub last : new.last ≡ 0
  pub inside : IsInside (length new.held) new.limit new.taken 0
  pub holds : (bytes : List ℕ) → content ≡ Some bytes → Holds new bytes
  pub whole : (bytes : List ℕ) → content ≡ Some bytes → (9 ≤ length new.held)
      ⊎ (new.taken ≡ min new.limit (length bytes))

-- what a reader with this limit may see of a file from a place on
abbrev pub seen_from : ℕ → ℕ → List ℕ → List ℕ
seen_from limit at bytes = drop at (take limit bytes)

-- why no header stands at the front, if none does; with a limit of nine bytes or more the limit is no reason
abbrev pub header_stop : ℕ → List ℕ → Option Stop
header_stop limit bytes = if is_some (header_size (take limit bytes)) then None else Some (RefusedAt 0 Header)

-- why no record stands at a place, if none does, every slot taken as filled
abbrev pub next_stop : (limit size at : ℕ) → List ℕ → Option Stop
next_stop limit size at bytes =
    option_map (λ why. stop_within (nat_le limit (length bytes)) (RefusedAt at why))
    (refusal size (replicate 16 true) (seen_from limit at bytes))

-- the record lies within a memory of this size and the sixteen slots
abbrev pub LiesWithin : ℕ → Entry → Type 0
LiesWithin size (Written at bytes) = at + length bytes ≤ size
LiesWithin size (Saved slot) = slot ≤ last_slot
LiesWithin size (Restored slot) = slot ≤ last_slot
LiesWithin size _ = ⊤

-- a record stands at the front of these bytes, over a memory of some size
pub record IsWhole (bytes : List ℕ) : Type 0 where
  pub size : ℕ
  pub good : refusal size (replicate 16 true) bytes ≡ None

-- the record that stands at a place
abbrev pub next_entry : (limit at : ℕ) → List ℕ → Entry
next_entry limit at bytes = front (seen_from limit at bytes)

-- what a reader answers that knows why no record stands next: a cut one is past the limit where that was taken
abbrev pub refused_as : ReaderSeen → Why → TraceError
refused_as reader Cut = if reader.taken == reader.limit then errors.TooLong else errors.Refused reader.next Cut
refused_as reader why = errors.Refused reader.next why

-- the error is what a reader answers for a stop; a failed read is told by no stop
abbrev pub IsStop : TraceError → Option Stop → Type 0
IsStop (errors.Refused at why) stop = stop ≡ Some (RefusedAt at why)
IsStop errors.TooLong stop = stop ≡ Some PastLimit
IsStop errors.Read stop = ⊤

-- the error is no failed read, or the count of faults rose
abbrev pub ByFault : TraceError → ℕ → ℕ → Type 0
ByFault errors.Read before now = Rose before now
ByFault (errors.Refused at why) before now = ⊤
ByFault errors.TooLong before now = ⊤

-- an error leaves the memory size and the last place
pub record StaysBefore (old new : ReaderSeen) : Type 0 where
  pub same : SameReader old new
  pub sized : new.size ≡ old.size
  pub last : new.last ≡ old.last

-- the reader is after a header of this size
pub record IsBehindHeader (size : ℕ) (old new : ReaderSeen) : Type 0 where
  pub same : SameReader old new
  pub sized : new.size ≡ Some size
  pub last : new.last ≡ 0
  pub next : new.next ≡ 9

-- the reader is after one record more, which ends within the limit
pub record IsBehindRecord (entry : Entry) (old new : ReaderSeen) : Type 0 where
  pub same : SameReader old new
  pub sized : new.size ≡ old.size
  pub last : new.last ≡ old.next
  pub next : new.next ≡ old.next + length (entry_bytes entry)
  pub within : new.next ≤ new.limit

-- at a place of what a reader may see of a file stands this record, whole
pub record Stands (limit size at : ℕ) (entry : Entry) (bytes : List ℕ) : Type 0 where
  pub good : next_stop limit size at bytes ≡ None
  pub is : entry ≡ next_entry limit at bytes

-- the reader has read so far that it knows why no record is next, if none is, and the file shows the same
pub record Knows (content : Option (List ℕ)) (size : ℕ) (why : Option Why) (old new : ReaderSeen) : Type 0 where
  pub same : SameReader old new
  pub sized : new.size ≡ old.size
  pub last : new.last ≡ old.last
  pub next : new.next ≡ old.next
  pub here : why ≡ refusal size (replicate 16 true) (unanswered new)
  pub holds : (bytes : List ℕ) → content ≡ Some bytes → Holds old bytes → Holds new bytes
  pub told : (bytes : List ℕ) → content ≡ Some bytes → Holds old bytes
      → refusal size (replicate 16 true) (seen_from old.limit old.next bytes) ≡ why
  pub entry : (bytes : List ℕ) → content ≡ Some bytes → Holds old bytes → why ≡ None
      → front (unanswered new) ≡ next_entry old.limit old.next bytes
  pub cut : (bytes : List ℕ) → content ≡ Some bytes → Holds old bytes → why ≡ Some Cut → new.taken
      ≡ min old.limit (length bytes)

-- before a record is lent the reader is after it, and holds its bytes from this one of those that it holds on
pub record Found (content : Option (List ℕ)) (at : ℕ) (old new : ReaderSeen) : Type 0 where
  pub whole : IsWhole (drop at new.held)
  pub moved : IsBehindRecord (front (drop at new.held)) old new
  pub lies : (size : ℕ) → old.size ≡ Some size → LiesWithin size (front (drop at new.held))
  pub holds : (bytes : List ℕ) → content ≡ Some bytes → Holds old bytes → Holds new bytes
  pub stands : (bytes : List ℕ) (size : ℕ) → content ≡ Some bytes → Holds old bytes → old.size ≡ Some size
      → Stands old.limit size old.next (front (drop at new.held)) bytes
