-- What a reader ends as once the record that it lent has ended: docs/INTERNALS.md, "Reading a trace".
use Rattle.std.specs.Prelude.{◌≡◌, ℕ, Option, Some, Result, IfOk, OnErr, List}
use Rattle.std.specs.Borrow.{Fml, MutBor}
use Rattle.std.specs.Io.BufRead.{Rests}
use Rattle.ra_trace.specs.declared.error.TraceError.{TraceError}
use Rattle.ra_trace.specs.declared.record.Record.{Record}
use Rattle.ra_trace.specs.contracts.reader.Reader.{the_row}
use Rattle.ra_trace.specs.Entries.{entry_of}
use Rattle.ra_trace.specs.Reading.{ReaderSeen, Holds, StaysBefore, IsBehindRecord}

-- a record moved the reader after it, which goes on to hold bytes of the file; an error leaves size and place
pub record Ends (content : Option (List ℕ)) (result : Result Record TraceError) (old new : ReaderSeen) : Type 0 where
  pub sized : new.size ≡ old.size
  pub moved : IfOk result (λ found. IsBehindRecord (entry_of found) old new)
  pub holds : IfOk result (λ found. (bytes : List ℕ) → content ≡ Some bytes → Holds old bytes → Holds new bytes)
  pub stays : OnErr result (StaysBefore old new)

-- a record is answered as the file ends, whatever its reads did before
abbrev pub EndsAs : Option (List ℕ) → MutBor ReaderSeen → Result Record TraceError → Fml
EndsAs content reader result = Rests the_row reader (Ends content result reader.now)
