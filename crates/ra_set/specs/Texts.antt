-- The texts that names are taken of, a file cut at each LF: docs/DEFINITIONS.md, "Names of items and scripts".
use Rattle.std.specs.Prelude.{ℕ, zero, suc, length, ◌==◌, Bool, if◌then◌else◌, Option, None, Some, List, [], ◌∷◌, codes}
use Rattle.std.specs.List.{filter}
use Rattle.ra_text.specs.Reading.{begins}
use Rattle.ra_text.specs.Table.{is_in, only}

-- a line, and what follows its LF, where there is one
pub record FirstLine : Type 0 where
  pub line : List ℕ
  pub rest : Option (List ℕ)

-- one byte more before a line
abbrev pub with_byte : ℕ → FirstLine → FirstLine
with_byte byte first = record first { line = byte ∷ first.line }

-- the first line of a text
abbrev pub first_line : List ℕ → FirstLine
first_line [] = record { line = []; rest = None }
first_line (byte ∷ bytes) =
    if byte == 10 then record { line = []; rest = Some bytes } else with_byte byte (first_line bytes)

-- a line without a CR at its end
abbrev pub without_return : List ℕ → List ℕ
without_return [] = []
without_return (byte ∷ []) = if byte == 13 then [] else byte ∷ []
without_return (byte ∷ next ∷ bytes) = byte ∷ without_return (next ∷ bytes)

-- what a line has as its text: its end is an LF, and a CR before that
abbrev pub text_of : FirstLine → List ℕ
text_of first = elim first.rest [ None ↦ first.line | Some rest ↦ without_return first.line ]

-- whether a line is one of an item
abbrev pub is_item : List ℕ → Bool
is_item = begins (is_in (only (codes "AL")))

-- whether a line is the line "P", after which the script stands
abbrev pub is_script : List ℕ → Bool
is_script = begins (is_in (only (codes "P")))

-- the texts of the lines before the line "P", and what follows it; the number bounds how many lines
abbrev pub lines_from : ℕ → List ℕ → List (List ℕ) × Option (List ℕ)
lines_from zero text = ([], None)
lines_from (suc most) text =
    let first = first_line text in
    if is_script text then ([], Some (elim first.rest [ None ↦ [] | Some rest ↦ rest ]))
    else elim first.rest [
      | None ↦ (text_of first ∷ [], None)
      | Some rest ↦ (text_of first ∷ (lines_from most rest).0, (lines_from most rest).1)
    ]

-- the lines of a file, and its script
abbrev pub cut_file : List ℕ → List (List ℕ) × Option (List ℕ)
cut_file file = lines_from (suc (length file)) file

-- the texts of the items' lines, in order
abbrev pub item_texts : List ℕ → List (List ℕ)
item_texts file = filter is_item (cut_file file).0

-- the text of the script, where there is a line "P"
abbrev pub script_text : List ℕ → Option (List ℕ)
script_text file = (cut_file file).1
