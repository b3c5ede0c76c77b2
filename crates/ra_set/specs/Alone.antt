-- A line that stands alone in a file, with its own end: docs/DEFINITIONS.md, "Set file" and "First bad place".
use Rattle.std.specs.Prelude.{◌≡◌, ◌⊎◌, ℕ, Bool, false, List, [], ◌∷◌, Option, None, Some, option_map, option_to_list}
use Rattle.std.specs.Prelude.{Result, Ok, Err, codes, bytes_eq}
use Rattle.ra_condition.specs.declared.fault.Fault.{Fault}
use Rattle.ra_condition.specs.declared.fault.Fault.TheVariants.{Stop, Memory}
use Rattle.ra_richpresence.specs.Cut.{lines_of, content_of}
use Rattle.ra_set.specs.declared.item.Item.{Item}
use Rattle.ra_set.specs.Contents.{item_contents}
use Rattle.ra_set.specs.Grammar.{Line, items_of, set_file}
use Rattle.ra_set.specs.Limits.{item_conditions}
use Rattle.ra_set.specs.Reading.{end_at, front_at, lines_in}
use Rattle.ra_set.specs.Spelled.{IsItem}
use Rattle.ra_text.specs.Reading.{begins}
use Rattle.ra_text.specs.Table.{is_in, only}

-- the text is one line, with its end or without one
abbrev pub IsOneLine : List ℕ → Type 0
IsOneLine text = lines_of text ≡ text ∷ []

-- the line is the one byte "P"
abbrev pub is_script_line : List ℕ → Bool
is_script_line line = bytes_eq (codes "P") (content_of line)

-- the file of this line alone is a set file, and contains this item or none
pub record ContainsAlone (line : List ℕ) (l : Line) : Type 0 where
  pub lines : List Line
  pub spelled : set_file line (record { lines = lines; script = None })
  pub items : items_of lines ≡ option_to_list l

-- an item that is there has its structure
abbrev pub OptionalItem : Line → Type 0
OptionalItem None = Unit {0}
OptionalItem (Some item) = IsItem item

-- how many conditions an item has that may be missing
abbrev pub conditions_in_line : Line → ℕ
conditions_in_line None = 0
conditions_in_line (Some item) = item_conditions item

-- the lines that a file was read to have contain this item or none, and nothing is left
pub record ReadsAlone (line : List ℕ) (l : Line) : Type 0 where
  pub lines : List Line
  pub read : lines_in (front_at line) ≡ Ok ((lines, false), [])
  pub items : items_of lines ≡ option_to_list l

-- an LF comes after a row, or the file ends there
abbrev pub EndsRow : Bool → List ℕ → List ℕ → Type 0
EndsRow wants old new = (old ≡ 10 ∷ new)
    ⊎ ((begins (is_in (only (codes "\n"))) old ≡ false) × (end_at wants old ≡ Ok (tt, new)))

-- no LF comes after a row, and the file does not end there
abbrev pub StopsRow : Bool → List ℕ → List ℕ → Type 0
StopsRow wants old new = (begins (is_in (only (codes "\n"))) old ≡ false) × (end_at wants old ≡ Err new)

-- what was taken of a line alone is what reading its file gives, unless memory runs out
abbrev pub AloneUnlessFull : Result (Option Item) Fault → List ℕ → List ℕ → Type 0
AloneUnlessFull (Ok item) line rest = ReadsAlone line (option_map item_contents item)
AloneUnlessFull (Err Stop) line rest = lines_in (front_at line) ≡ Err rest
AloneUnlessFull (Err Memory) line rest = Unit {0}
