-- The grammar of set files: docs/DEFINITIONS.md, "Set file".
use Rattle.std.specs.Prelude.{◌≡◌, ℕ, ◌<◌, ◌^◌, false, List, [], ◌∷◌, ◌++◌, length, Option, Some, None, option_map}
use Rattle.std.specs.Prelude.{option_to_list, codes}
use Rattle.std.specs.List.{flat_map}
use Rattle.ra_condition.specs.Grammar.{trigger}
use Rattle.ra_leaderboard.specs.Grammar.{board}
use Rattle.ra_value_format.specs.declared.format.Format.{Format}
use Rattle.ra_value_format.specs.Formats.{format_of_name}
use Rattle.ra_set.specs.Contents.{ItemContents, Unlocks, Ranks, SetContents}
use Rattle.ra_richpresence.specs.Grammar.{ScriptParts, script_parts, script_of}
use Rattle.ra_set.specs.Runs.{many, run_of, any_but}
use Rattle.ra_text.specs.Form.{Form, Spell, One, ◌>>=◌, ◌or◌, optional}
use Rattle.ra_text.specs.Number.{numeral, digits}
use Rattle.ra_text.specs.Reading.{begins}
use Rattle.ra_text.specs.Table.{lookup, is_in, only}

-- an id: the decimal digits of a number of 32 bits, without a zero before other digits
pub record ExactId (text : List ℕ) (n : ℕ) : Type 0 where
  pub number : numeral (lookup digits) 10 text n
  pub exact : 1 < length text → begins (is_in (only (codes "0"))) text ≡ false
  pub fits : n < 2 ^ 32

-- one or more bytes of a line other than a space: the format of that name
abbrev pub format_name : Form ℕ Format
format_name = do
  first ← One (any_but (codes " \n"))
  others ← run_of (any_but (codes " \n"))
  Spell (format_of_name (first ∷ others))

-- what a line has: an item, or none
abbrev pub Line : Type 0
Line = Option ItemContents

-- "#" and any bytes of a line
abbrev pub comment : Form ℕ Line
comment = do
  mark ← One (only (codes "#"))
  bytes ← run_of (any_but (codes "\n"))
  Spell None

-- a letter, " ", an id and " "
abbrev pub head : (letter : ℕ) → Form ℕ ℕ
head letter = do
  first ← One (only (letter ∷ []))
  space ← One (only (codes " "))
  id ← ExactId
  behind ← One (only (codes " "))
  Spell id

-- "A" " " id " " trigger
abbrev pub achievement : Form ℕ Line
achievement = do
  id ← head 65
  t ← trigger
  Spell (Some (Unlocks id t))

-- "L" " " id " " format " " board
abbrev pub leaderboard : Form ℕ Line
leaderboard = do
  id ← head 76
  format ← format_name
  space ← One (only (codes " "))
  b ← board
  Spell (Some (Ranks id format b))

-- a line before the presence script: a comment, an achievement, a leaderboard, or empty
abbrev pub line : Form ℕ Line
line = comment or (achievement or (leaderboard or Spell None))

-- LF or CR LF
abbrev pub line_end : Form ℕ (Unit {0})
line_end = do
  return ← optional (only (codes "\r")) tt
  One (only (codes "\n"))

-- a line with its end
abbrev pub ended_line : Form ℕ Line
ended_line = do
  l ← line
  end ← line_end
  Spell l

-- the lines of a file without a presence script: each has its end but the last, which ends with the file
abbrev pub set_lines : Form ℕ (List Line)
set_lines = do
  ended ← many ended_line
  last ← line
  Spell (ended ++ last ∷ [])

-- the items of lines
abbrev pub items_of : List Line → List ItemContents
items_of lines = flat_map option_to_list lines

-- lines that each have their end, and after them the letter of a line "P"
abbrev pub last_head : Form ℕ (List Line)
last_head = do
  ended ← many ended_line
  letter ← One (only (codes "P"))
  Spell ended

-- lines that each have their end, and a line "P" with its end, after which a presence script begins
abbrev pub script_head : Form ℕ (List Line)
script_head = do
  ended ← last_head
  end ← line_end
  Spell ended

-- what a file contains: its lines, and the parts of its script where it has a line "P"
pub record FileContents : Type 0 where
  pub lines : List Line
  pub script : Option ScriptParts

-- a file with a presence script, which is all that comes after the line "P"
abbrev pub scripted : Form ℕ FileContents
scripted = do
  ended ← script_head
  parts ← script_parts
  Spell (record { lines = ended; script = Some parts })

-- a file without a presence script
abbrev pub unscripted : Form ℕ FileContents
unscripted = do
  lines ← set_lines
  Spell (record { lines = lines; script = None })

-- the set files, each for what it contains
abbrev pub set_file : Form ℕ FileContents
set_file = scripted or unscripted

-- the file spells the set: the items of its lines, and its script
pub record SetFile (file : List ℕ) (set : SetContents) : Type 0 where
  pub contents : FileContents
  pub spelled : set_file file contents
  pub items : set.items ≡ items_of contents.lines
  pub script : set.script ≡ option_map script_of contents.script
