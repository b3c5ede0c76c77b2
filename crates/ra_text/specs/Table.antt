-- Tables of bytes, in either case or as they are: docs/DEFINITIONS.md, "Numbers in text" and "Operands".
use Rattle.std.specs.Prelude.{ℕ, ◌+◌, ◌==◌, Bool, true, false, if◌then◌else◌, List, [], ◌∷◌, Option, Some, None}

-- what stands beside the byte in the table
abbrev pub lookup : {V : Type 0} → List (ℕ × V) → ℕ → Option V
lookup [] byte = None
lookup (entry ∷ table) byte = if byte == entry.0 then Some entry.1 else lookup table byte

-- letters in either case, given in upper case, for one value
abbrev pub letters : {V : Type 0} → List ℕ → V → List (ℕ × V)
letters [] v = []
letters (upper ∷ others) v = (upper, v) ∷ (upper + 32, v) ∷ letters others v

-- bytes as they are, for one value
abbrev pub bytes_for : {V : Type 0} → List ℕ → V → List (ℕ × V)
bytes_for [] v = []
bytes_for (byte ∷ others) v = (byte, v) ∷ bytes_for others v

-- the table has the byte
abbrev pub is_in : {V : Type 0} → (ℕ → Option V) → ℕ → Bool
is_in table byte = elim (table byte) [ Some v ↦ true | None ↦ false ]

-- a table of these bytes, each without a value
abbrev pub marks : List ℕ → List (ℕ × Unit {0})
marks wanted = bytes_for wanted tt

-- a table of these letters in either case, each without a value
abbrev pub letter_marks : List ℕ → List (ℕ × Unit {0})
letter_marks wanted = letters wanted tt

-- the byte is one of these
abbrev pub only : List ℕ → ℕ → Option (Unit {0})
only wanted = lookup (marks wanted)

-- the byte is one of these letters, in either case
abbrev pub only_letters : List ℕ → ℕ → Option (Unit {0})
only_letters wanted = lookup (letter_marks wanted)
