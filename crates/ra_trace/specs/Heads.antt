-- Records without the bytes of their writes: docs/DEFINITIONS.md, "Trace file".
use Rattle.std.specs.Prelude.{ℕ, ◌+◌, Option, None, Some, Result, Ok, Err, length}
use Rattle.ra_trace.specs.declared.error.Why.{Why}
use Rattle.ra_trace.specs.declared.head.Head.{Head}
use Rattle.ra_trace.specs.declared.head.Head.TheVariants as heads
use Rattle.ra_trace.specs.Entries.{Entry, Written, Framed, Saved, Restored, Shown, Ended}

-- a record, told without the bytes of its write
abbrev pub head_of : Entry → Head
head_of (Written at bytes) = heads.Write at (length bytes)
head_of Framed = heads.Frame
head_of (Saved slot) = heads.Save slot
head_of (Restored slot) = heads.Restore slot
head_of Shown = heads.Show
head_of Ended = heads.End

-- how many bytes a record of this head takes
abbrev pub head_length : Head → ℕ
head_length (heads.Write at count) = 7 + count
head_length (heads.Save slot) = 2
head_length (heads.Restore slot) = 2
head_length _ = 1

-- why there is none, where there is none
abbrev pub why_of : {T : Type 0} → Result T Why → Option Why
why_of (Ok found) = None
why_of (Err why) = Some why
