-- How the text of a sink grows: docs/DEFINITIONS.md, "Files and sinks".
use Rattle.std.specs.Prelude.{ℕ, Option, None, Some, Result, Ok, Err, List, [], ◌++◌, take}

-- the text with more at its end, where the sink tells its text
abbrev pub grown : Option (List ℕ) → List ℕ → Option (List ℕ)
grown None more = None
grown (Some text) more = Some (text ++ more)

-- what a write took of the bytes
abbrev pub taken : {E : Type 0} → Result ℕ E → List ℕ → List ℕ
taken (Ok n) bytes = take n bytes
taken (Err e) bytes = []
