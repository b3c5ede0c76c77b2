-- Rows in one list, each with the place of the row before it: docs/DEFINITIONS.md, "Recorders".
use Rattle.std.specs.Prelude.{◌≡◌, ℕ, ◌-◌, ◌*◌, ◌<◌, ◌≤◌, Bool, List, [], ◌∷◌, ◌++◌, length, map, take, drop}
use Rattle.std.specs.Prelude.{slice_index, slice_index_or}
use Rattle.std.specs.List.{AllByRecursion}
use Rattle.ra_member.specs.declared.laid.Laid.{Laid}
use Rattle.ra_member.specs.Readings.{numbers_at, truths_by}

-- how many comparisons a row has, and the rows from each place back, the newest first; place 0 has none
pub record RowsSeen : Type 0 where
  pub width : ℕ
  pub behind : List (List (List Bool))

-- the rows from a place back
abbrev pub rows_from : List (List (List Bool)) → ℕ → List (List Bool)
rows_from behind place = slice_index_or behind place []

-- one place more: this row, and the rows from the place before it back
abbrev pub with_row : List (List (List Bool)) → List Bool → ℕ → List (List (List Bool))
with_row behind row before = behind ++ (row ∷ rows_from behind before) ∷ []

-- the last place with another row, and with the rows that came after its row
abbrev pub refilled : List (List (List Bool)) → List Bool → List (List (List Bool))
refilled behind row =
    take (length behind - 1) behind ++ (row ∷ drop 1 (rows_from behind (length behind - 1))) ∷ []

-- the rows from each place back, from comparisons that stand in rows of this width and the place before each row
abbrev pub behind_by : (width : ℕ) → (known : List (List (List Bool))) → List Bool → List ℕ → List (List (List Bool))
behind_by width known truths [] = known
behind_by width known truths (before ∷ links) =
    behind_by width (with_row known (take width truths) before) (drop width truths) links

-- the rows from each place back, where place 0 is before the first row
abbrev pub behind_each : (width : ℕ) → List Bool → List ℕ → List (List (List Bool))
behind_each width truths links = behind_by width ([] ∷ []) truths links

-- each row comes after a place that was there before it
abbrev pub AreEarlier : List ℕ → Type 0
AreEarlier links = (k : ℕ) → k < length links → slice_index links k ≤ k

-- the row of an index
abbrev pub row_at : (width : ℕ) → List Bool → ℕ → List Bool
row_at width truths index = take width (drop (index * width) truths)

-- these are the indices of the rows from a place back, the newest first
pub record AreIndices (links : List ℕ) (place : ℕ) (indices : List ℕ) : Type 0 where
  pub within : AllByRecursion (λ k. k < length links) indices
  pub rows : (width : ℕ) (truths : List Bool) → map (row_at width truths) indices
      ≡ rows_from (behind_each width truths links) place

-- whether each comparison of a plan holds, by the values of its nodes
abbrev pub truths_laid : List ℕ → Laid → List Bool
truths_laid values laid =
    truths_by laid.ops (numbers_at values laid.plan.lefts) (numbers_at values laid.plan.rights)
