-- Reading set files from left to right: the step between the code and docs/DEFINITIONS.md, "Set file".
use Rattle.std.specs.Prelude.{◌≡◌, ℕ, zero, suc, ◌+◌, ◌*◌, ◌==◌, ◌||◌, nat_lt, Bool, true, false, if◌then◌else◌, List}
use Rattle.std.specs.Prelude.{[], ◌∷◌, ◌++◌, length, Option, Some, None, Ok, Err, codes}
use Rattle.ra_condition.specs.Reading.{trigger_at}
use Rattle.ra_leaderboard.specs.Reading.{board_at}
use Rattle.ra_value_format.specs.declared.format.Format.{Format}
use Rattle.ra_value_format.specs.Formats.{format_of_name}
use Rattle.ra_set.specs.Contents.{Unlocks, Ranks}
use Rattle.ra_set.specs.Grammar.{Line}
use Rattle.ra_set.specs.Runs.{any_but}
use Rattle.ra_text.specs.Number.{digits}
use Rattle.ra_text.specs.Reading.{Outcome, ◌>>=◌, one_at, optional_at, choice_at, begins, chain_at}
use Rattle.ra_text.specs.Table.{lookup, bytes_for, is_in, only}

-- no digit goes on with this number of an id: it is a lone zero, or the number with the digit passes 32 bits
abbrev pub is_past : ℕ → ℕ → Bool
is_past so_far d = (so_far == 0) || nat_lt 4294967295 (so_far * 10 + d)

-- the number of an id with one digit more, where the digit goes on with it
abbrev pub with_digit : ℕ → ℕ → Option ℕ
with_digit so_far byte = elim (lookup digits byte) [
  | Some d ↦ if is_past so_far d then None
      else Some (so_far * 10 + d)
  | None ↦ None
]

-- the number of an id, with as many digits as go on with it
abbrev pub more_digits_at : ℕ → List ℕ → Outcome ℕ ℕ
more_digits_at so_far [] = Ok (so_far, [])
more_digits_at so_far (byte ∷ rest) = elim
    (with_digit so_far byte) [ Some n ↦ more_digits_at n rest | None ↦ Ok (so_far, byte ∷ rest) ]

-- an id
unfoldable pub id_at : List ℕ → Outcome ℕ ℕ
id_at text = do
  d ← one_at (lookup digits) text
  more_digits_at d.0 d.1

-- the symbols of a table, as many as stand there
abbrev pub run_at : {A V : Type 0} → (A → Option V) → List A → Outcome A (List V)
run_at table text = chain_at {S = Unit {0}} (λ s. table) (λ s v rest. Ok (v, rest)) (λ s v. s)
    (λ s. true) (length text) tt text

-- a name of a format
unfoldable pub format_at : List ℕ → Outcome ℕ Format
format_at text = do
  first ← one_at (any_but (codes " \n")) text
  others ← run_at (any_but (codes " \n")) first.1
  Ok (format_of_name (first.0 ∷ others.0), others.1)

-- "#" and the rest of the line
unfoldable pub comment_at : List ℕ → Outcome ℕ Line
comment_at text = do
  mark ← one_at (only (codes "#")) text
  bytes ← run_at (any_but (codes "\n")) mark.1
  Ok (None, bytes.1)

-- a letter, a space, an id, and a space
unfoldable pub head_at : (letter : ℕ) → List ℕ → Outcome ℕ ℕ
head_at letter text = do
  l ← one_at (only (letter ∷ [])) text
  space ← one_at (only (codes " ")) l.1
  id ← id_at space.1
  behind ← one_at (only (codes " ")) id.1
  Ok (id.0, behind.1)

-- "A" " " id " " trigger
unfoldable pub achievement_at : List ℕ → Outcome ℕ Line
achievement_at text = do
  id ← head_at 65 text
  t ← trigger_at id.1
  Ok (Some (Unlocks id.0 t.0), t.1)

-- "L" " " id " " format " " board
unfoldable pub leaderboard_at : List ℕ → Outcome ℕ Line
leaderboard_at text = do
  id ← head_at 76 text
  format ← format_at id.1
  space ← one_at (only (codes " ")) format.1
  b ← board_at space.1
  Ok (Some (Ranks id.0 format.0 b.0), b.1)

-- a leaderboard, or an empty line
unfoldable pub leaderboard_or_empty_at : List ℕ → Outcome ℕ Line
leaderboard_or_empty_at = choice_at (begins (is_in (only (codes "L")))) leaderboard_at (λ text. Ok (None, text))

-- a line that is no comment
unfoldable pub item_line_at : List ℕ → Outcome ℕ Line
item_line_at = choice_at (begins (is_in (only (codes "A")))) achievement_at leaderboard_or_empty_at

-- a comment, a CR at its end with it, so that it wants no LF
unfoldable pub comment_row_at : List ℕ → Outcome ℕ (Line × Bool)
comment_row_at text = do
  l ← comment_at text
  Ok ((l.0, false), l.1)

-- a line that is no comment, and whether a CR comes after it
unfoldable pub item_row_at : List ℕ → Outcome ℕ (Line × Bool)
item_row_at text = do
  l ← item_line_at text
  returned ← optional_at (lookup (bytes_for (codes "\r") true)) false l.1
  Ok ((l.0, returned.0), returned.1)

-- what stands of a line before its LF, and whether it wants one
unfoldable pub row_at : List ℕ → Outcome ℕ (Line × Bool)
row_at = choice_at (begins (is_in (only (codes "#")))) comment_row_at item_row_at

-- how the lines of a file end: with a last line, at the letter of a line "P", or with a line "P" that has this text
-- after it
pub data Tail : Type 0 where
  Ends : Line → Tail
  Letter : Tail
  Opens : List ℕ → Tail

-- what follows the CR of a line "P"
abbrev pub feed_at : List ℕ → Outcome ℕ Tail
feed_at [] = Err []
feed_at (byte ∷ rest) = if byte == 10 then Ok (Opens rest, []) else Err (byte ∷ rest)

-- what follows the letter of a line "P"
abbrev pub opens_at : List ℕ → Outcome ℕ Tail
opens_at [] = Ok (Letter, [])
opens_at (byte ∷ rest) = if byte == 10 then Ok (Opens rest, []) else if byte == 13 then feed_at rest
    else Ok (Letter, byte ∷ rest)

-- a line "P"
abbrev pub letter_at : List ℕ → Outcome ℕ (List Line × Tail)
letter_at [] = Err []
letter_at (byte ∷ rest) = do
  tail ← opens_at rest
  Ok (([], tail.0), tail.1)

-- the end of a line "P", or the end of the file
abbrev pub script_end_at : List ℕ → Outcome ℕ (Unit {0})
script_end_at [] = Ok (tt, [])
script_end_at (byte ∷ rest) = do
  returned ← optional_at (lookup (bytes_for (codes "\r") true)) false (byte ∷ rest)
  one_at (only (codes "\n")) returned.1

-- a line "P", with its end or at the end of the file
abbrev pub script_line_at : List ℕ → Outcome ℕ (Unit {0})
script_line_at text = do
  letter ← one_at (only (codes "P")) text
  script_end_at letter.1

-- the end of the file, after a row that wants no LF
abbrev pub end_at : Bool → List ℕ → Outcome ℕ (Unit {0})
end_at true text = Err text
end_at false [] = Ok (tt, [])
end_at false (byte ∷ rest) = Err (byte ∷ rest)

-- what others give, with these lines before them
abbrev pub with_lines : List Line → Outcome ℕ (List Line × Tail) → Outcome ℕ (List Line × Tail)
with_lines lines others = do
  found ← others
  Ok ((lines ++ found.0.0, found.0.1), found.1)

-- a row as the last line, if it wants no LF
abbrev pub last_at : Line → Bool → List ℕ → Outcome ℕ (List Line × Tail)
last_at l true text = Err text
last_at l false text = Ok (([], Ends l), text)

-- what follows a row: an LF and other lines, or the end of the lines
abbrev pub behind_row_at : (List ℕ → Outcome ℕ (List Line × Tail)) → Line → Bool → List ℕ → Outcome ℕ (List Line × Tail)
behind_row_at others l wants [] = last_at l wants []
behind_row_at others l wants (byte ∷ rest) =
    if byte == 10 then with_lines (l ∷ []) (others rest) else last_at l wants (byte ∷ rest)

-- the next line of a file and those after it
abbrev pub row_and_others_at : (List ℕ → Outcome ℕ (List Line × Tail)) → List ℕ → Outcome ℕ (List Line × Tail)
row_and_others_at others text = do
  row ← row_at text
  behind_row_at others row.0.0 row.0.1 row.1

-- the lines of a file up to their end; the number bounds how many
abbrev pub front_from : ℕ → List ℕ → Outcome ℕ (List Line × Tail)
front_from zero text = Err text
front_from (suc most) text = choice_at (begins (is_in (only (codes "P")))) letter_at
    (row_and_others_at (front_from most)) text

-- the lines of a file, with their ends but the last, and how they end
unfoldable pub front_at : List ℕ → Outcome ℕ (List Line × Tail)
front_at text = front_from (suc (length text)) text

-- the lines of a file, and whether its script comes after them, which is what is left
abbrev pub lines_in : Outcome ℕ (List Line × Tail) → Outcome ℕ (List Line × Bool)
lines_in (Ok ((ended, Ends l), [])) = Ok ((ended ++ l ∷ [], false), [])
lines_in (Ok ((ended, Ends l), byte ∷ rest)) = Err (byte ∷ rest)
lines_in (Ok ((ended, Letter), [])) = Ok ((ended, true), [])
lines_in (Ok ((ended, Letter), byte ∷ rest)) = Err (byte ∷ rest)
lines_in (Ok ((ended, Opens text), rest)) = Ok ((ended, true), text)
lines_in (Err rest) = Err rest

-- the symbols of the table that stand next were passed
pub record PassesRun {A V : Type 0} (table : A → Option V) (old new : List A) : Type 0 where
  pub run : List V
  pub is : run_at table old ≡ Ok (run, new)
