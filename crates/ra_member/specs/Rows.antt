-- Rows of numbers, cut by lengths: docs/DEFINITIONS.md, "Members".
use Rattle.std.specs.Prelude.{ℕ, List, [], ◌∷◌, take, drop}

-- a row, cut into pieces of these lengths, one after the other; what is after the last is left out
abbrev pub rows_by : {A : Type 0} → List ℕ → List A → List (List A)
rows_by [] row = []
rows_by (n ∷ lengths) row = take n row ∷ rows_by lengths (drop n row)
