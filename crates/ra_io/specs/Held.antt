-- Files and a sink in memory, and the calls on them that are to fail: docs/DEFINITIONS.md, "Files in memory".
use Rattle.std.specs.Prelude.{◌≡◌, ◌≢◌, ℕ, Bool, true, false, if◌then◌else◌, Option, Some, Result, Ok, Err, List, []}
use Rattle.std.specs.Prelude.{Contains, unwrap_or}
use Rattle.ra_io.specs.Causes.{next_count}
use Rattle.ra_io.specs.declared.files.PutFailed.{PutFailed}
use Rattle.ra_io.specs.declared.files.PutFailed.TheVariants as put
use Rattle.ra_io.specs.declared.sink.SinkFailed.{SinkFailed}
use Rattle.ra_io.specs.declared.sink.SinkFailed.TheVariants as write

-- the bytes of each name that is there
abbrev pub Names : Type 0
Names = List ℕ → Option (List ℕ)

-- the bytes that a name reads as, none where it is not there
abbrev pub bytes_under : Names → List ℕ → List ℕ
bytes_under names name = unwrap_or (names name) []

-- one name has these bytes now, and every other is as it was
pub record SetsName (old new : Names) (name bytes : List ℕ) : Type 0 where
  pub changed : new name ≡ Some bytes
  pub others : (other : List ℕ) → other ≢ name → new other ≡ old other

-- what is counted of the calls of one kind
pub record CallsSeen : Type 0 where
  -- how many were made, and the numbers of those that are to fail, counted from 1
  pub made : ℕ
  pub failing : List ℕ
  -- how many faults came of them
  pub faults : ℕ

-- no calls yet
abbrev pub no_calls : List ℕ → CallsSeen
no_calls failing = record { made = 0; failing = failing; faults = 0 }

-- the next call is one of those that are to fail
abbrev pub IsListed : CallsSeen → Type 0
IsListed calls = Contains calls.failing (next_count calls.made)

-- the calls after one more, which failed or did not
abbrev pub counted : Bool → CallsSeen → CallsSeen
counted failed calls = record calls
    { made = next_count calls.made; faults = if failed then next_count calls.faults else calls.faults }

-- whether a put met a fault
abbrev pub put_failed : Result (Unit {0}) PutFailed → Bool
put_failed (Ok done) = false
put_failed (Err put.Failed) = true
put_failed (Err put.Memory) = false

-- whether a write met a fault
abbrev pub write_failed : Result ℕ SinkFailed → Bool
write_failed (Ok n) = false
write_failed (Err write.Failed) = true
write_failed (Err write.Memory) = false

-- files in memory, with their reads and puts counted apart
pub record FilesSeen : Type 0 where
  pub names : Names
  pub reads : CallsSeen
  pub puts : CallsSeen

-- a text in memory, the most bytes that one write takes, and the writes
pub record SinkSeen : Type 0 where
  pub text : List ℕ
  pub most : ℕ
  pub writes : CallsSeen

-- how often reads and puts of the system's files have failed
pub record FaultsSeen : Type 0 where
  pub reads : ℕ
  pub puts : ℕ
