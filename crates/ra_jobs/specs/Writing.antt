-- How much of a text was written: docs/DEFINITIONS.md, "Files and sinks".
use Rattle.std.specs.Prelude.{◌≡◌, ◌++◌, List, ℕ}
use Rattle.std.specs.Prelude.{Option}
use Rattle.ra_io.specs.Sink.{grown}

-- The text grew by some front of the bytes.
pub record GrewByPart (old new : Option (List ℕ)) (bytes : List ℕ) : Type 0 where
  pub front : List ℕ
  pub rest : List ℕ
  pub whole : front ++ rest ≡ bytes
  pub grew : new ≡ grown old front
