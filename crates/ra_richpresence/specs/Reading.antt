-- Reading scripts from left to right: the step between the code and docs/DEFINITIONS.md, "Presence scripts".
use Rattle.std.specs.Prelude.{ℕ, ◌==◌, ◌&&◌, zero, suc, Bool, true, false, if◌then◌else◌, List, [], ◌∷◌, ◌++◌, length}
use Rattle.std.specs.Prelude.{Option, Some, None, option_map, Ok, Err, codes}
use Rattle.ra_condition.specs.Contents.{TriggerContents}
use Rattle.ra_condition.specs.Reading.{trigger_at}
use Rattle.ra_condition.specs.ReadingValues.{value_at}
use Rattle.ra_richpresence.specs.Contents.{PieceContents, Bytes, Shows, LineContents}
use Rattle.ra_richpresence.specs.Cut.{is_left}
use Rattle.ra_richpresence.specs.Grammar.{other_than, joined_texts, EntryContents, Keyed, Other, SectionContents, Looks}
use Rattle.ra_richpresence.specs.Grammar.{Formats, ScriptParts}
use Rattle.ra_text.specs.Reading.{Outcome, ◌>>=◌, one_at, literal_at, choice_at, begins, chain_at, joined_at}
use Rattle.ra_text.specs.ReadingNumbers.{decimal_at, hexadecimal_at}
use Rattle.ra_text.specs.Table.{is_in, only, only_letters}
use Rattle.ra_value_format.specs.declared.format.Format.{Format}
use Rattle.ra_value_format.specs.Formats.{format_of_name}

-- ---- the parts of a line

-- symbols of the table, as many as stand there
abbrev pub run_at : {A V : Type 0} → (A → Option V) → List A → Outcome A (List V)
run_at table text = chain_at {S = Unit {0}} (λ s. table) (λ s tag rest. Ok (tag, rest)) (λ s v. s)
    (λ s. true) (length text) tt text

-- a byte of a name
abbrev pub name_byte : ℕ → Option ℕ
name_byte = other_than (codes "()@\\")

-- a name
unfoldable pub name_at : List ℕ → Outcome ℕ (List ℕ)
name_at text = do
  first ← one_at name_byte text
  others ← run_at name_byte first.1
  Ok (first.0 ∷ others.0, others.1)

-- 0x hexnum
unfoldable pub hex_key_at : List ℕ → Outcome ℕ ℕ
hex_key_at text = do
  zero_digit ← one_at (only (codes "0")) text
  x ← one_at (only_letters (codes "X")) zero_digit.1
  hexadecimal_at x.1

-- a letter x is next
abbrev pub begins_x : List ℕ → Bool
begins_x = begins (is_in (only_letters (codes "X")))

-- a hexadecimal key begins
abbrev pub begins_hex : List ℕ → Bool
begins_hex [] = false
begins_hex (byte ∷ rest) = is_in (only (codes "0")) byte && begins_x rest

-- key
unfoldable pub key_at : List ℕ → Outcome ℕ ℕ
key_at = choice_at begins_hex hex_key_at decimal_at

-- "-" key
unfoldable pub range_end_at : List ℕ → Outcome ℕ ℕ
range_end_at text = do
  dash ← one_at (only (codes "-")) text
  key_at dash.1

-- "-" key, or else the first key again
unfoldable pub range_last_at : ℕ → List ℕ → Outcome ℕ ℕ
range_last_at first = choice_at (begins (is_in (only (codes "-")))) range_end_at (λ text. Ok (first, text))

-- key [ "-" key ]
unfoldable pub range_at : List ℕ → Outcome ℕ (ℕ × ℕ)
range_at text = do
  first ← key_at text
  last ← range_last_at first.0 first.1
  Ok ((first.0, last.0), last.1)

-- range { "," range }
unfoldable pub ranges_at : List ℕ → Outcome ℕ (List (ℕ × ℕ))
ranges_at = joined_at (only (codes ",")) range_at

-- range { "," range } "="
unfoldable pub keys_at : List ℕ → Outcome ℕ (List (ℕ × ℕ))
keys_at text = do
  ranges ← ranges_at text
  equals ← one_at (only (codes "=")) ranges.1
  Ok (ranges.0, equals.1)

-- "?" trigger "?"
unfoldable pub test_at : List ℕ → Outcome ℕ TriggerContents
test_at text = do
  opening ← one_at (only (codes "?")) text
  found ← trigger_at opening.1
  closing ← one_at (only (codes "?")) found.1
  Ok (found.0, closing.1)

-- "@" name "(" value ")"
unfoldable pub macro_at : List ℕ → Outcome ℕ PieceContents
macro_at text = do
  at ← one_at (only (codes "@")) text
  macro_name ← name_at at.1
  opening ← one_at (only (codes "(")) macro_name.1
  shown ← value_at opening.1
  closing ← one_at (only (codes ")")) shown.1
  Ok (Shows macro_name.0 shown.0, closing.1)

-- what a `\` stands for, and what is left after it
abbrev pub escaped : List ℕ → ℕ × List ℕ
escaped [] = (92, [])
escaped (byte ∷ rest) = (byte, rest)

-- the character that begins with a byte, and what is left after it
abbrev pub character_of : ℕ → List ℕ → ℕ × List ℕ
character_of byte rest = if byte == 92 then escaped rest else (byte, rest)

-- a character
abbrev pub character_at : List ℕ → Outcome ℕ ℕ
character_at [] = Err []
character_at (byte ∷ rest) = Ok (character_of byte rest)

-- a character as a piece
abbrev pub shown_character_of : ℕ → List ℕ → PieceContents × List ℕ
shown_character_of byte rest = (Bytes ((character_of byte rest).0 ∷ []), (character_of byte rest).1)

-- a macro or a character
abbrev pub piece_at : List ℕ → Outcome ℕ PieceContents
piece_at [] = Err []
piece_at (byte ∷ rest) = if byte == 64 then macro_at (byte ∷ rest) else Ok (shown_character_of byte rest)

-- items up to the end of the text; the number bounds how many
abbrev pub all_at : {V : Type 0} → (List ℕ → Outcome ℕ V) → ℕ → List ℕ → Option (List V)
all_at item_at most [] = Some []
all_at item_at zero (byte ∷ rest) = None
all_at item_at (suc most) (byte ∷ rest) = elim (item_at (byte ∷ rest)) [
  | Ok x ↦ option_map (λ vs. x.0 ∷ vs) (all_at item_at most x.1)
  | Err left ↦ None
]

-- the text of a lookup
unfoldable pub lookup_text_of : List ℕ → Option (List ℕ)
lookup_text_of text = all_at character_at (length text) text

-- pieces
unfoldable pub pieces_of : List ℕ → Option (List PieceContents)
pieces_of text = option_map joined_texts (all_at piece_at (length text) text)

-- ---- the lines

-- the value of a reading that left nothing
abbrev pub whole : {V : Type 0} → Outcome ℕ V → Option V
whole (Ok (v, [])) = Some v
whole (Ok (v, byte ∷ rest)) = None
whole (Err rest) = None

-- a second reading of what a first one left, where the first one gave a value
abbrev pub behind : {V W : Type 0} → Outcome ℕ V → (V → List ℕ → Option W) → Option W
behind (Ok x) next = next x.0 x.1
behind (Err rest) next = None

-- "Lookup:" name
unfoldable pub lookup_head_of : List ℕ → Option (List ℕ)
lookup_head_of line = behind (literal_at (codes "Lookup:") line) (λ word rest. whole (name_at rest))

-- "Format:" name
unfoldable pub format_head_of : List ℕ → Option (List ℕ)
format_head_of line = behind (literal_at (codes "Format:") line) (λ word rest. whole (name_at rest))

-- "FormatType=" name
unfoldable pub format_type_of : List ℕ → Option Format
format_type_of line = behind (literal_at (codes "FormatType=") line)
    (λ word rest. option_map format_of_name (whole (name_at rest)))

-- "Display:"
unfoldable pub display_head_of : List ℕ → Option (Unit {0})
display_head_of line = whole (literal_at (codes "Display:") line)

-- keys and a text
unfoldable pub keyed_entry_of : List ℕ → Option EntryContents
keyed_entry_of line = behind (keys_at line) (λ ranges text. option_map
    (λ shown. Keyed (record { ranges = ranges; text = shown })) (lookup_text_of text))

-- "*=" text
unfoldable pub other_entry_of : List ℕ → Option EntryContents
other_entry_of line = behind (literal_at (codes "*=") line) (λ star text. option_map Other (lookup_text_of text))

-- a line of a lookup
unfoldable pub entry_of : List ℕ → Option EntryContents
entry_of line = if begins (is_in (only (codes "*"))) line then other_entry_of line else keyed_entry_of line

-- a test and pieces
unfoldable pub tested_line_of : List ℕ → Option LineContents
tested_line_of line = behind (test_at line) (λ found text. option_map
    (λ shown. record { test = Some found; pieces = shown }) (pieces_of text))

-- the line without a test that pieces are
abbrev pub untested_with : List PieceContents → LineContents
untested_with shown = record { test = None; pieces = shown }

-- pieces, whose first byte is no `?`
unfoldable pub last_line_of : List ℕ → Option LineContents
last_line_of line = if begins (is_in (only (codes "?"))) line then None else option_map untested_with (pieces_of line)

-- ---- the script

-- the first line of a lookup or of a format
pub data HeadContents : Type 0 where
  OpensLookup : List ℕ → HeadContents
  OpensFormat : List ℕ → HeadContents

-- the first line of a lookup, or else of a format
abbrev pub head_or : Option (List ℕ) → Option (List ℕ) → Option HeadContents
head_or (Some lookup_name) other = Some (OpensLookup lookup_name)
head_or None other = option_map OpensFormat other

-- the first line of a section
unfoldable pub section_head_of : List ℕ → Option HeadContents
section_head_of line = head_or (lookup_head_of line) (format_head_of line)

-- the value of a line, where it is one that may be left
abbrev pub left_only : {V : Type 0} → (List ℕ → Option V) → List ℕ → Option V
left_only value_of line = if is_left line then value_of line else None

-- the lines of a lookup
unfoldable pub entries_at : List (List ℕ) → Outcome (List ℕ) (List EntryContents)
entries_at = run_at (left_only entry_of)

-- what follows the first line of a section
unfoldable pub section_behind_at : HeadContents → List (List ℕ) → Outcome (List ℕ) SectionContents
section_behind_at (OpensLookup lookup_name) lines = do
  entries ← entries_at lines
  Ok (Looks lookup_name entries.0, entries.1)
section_behind_at (OpensFormat format_name) lines = do
  format ← one_at (left_only format_type_of) lines
  Ok (Formats format_name format.0, format.1)

-- lookups and formats
unfoldable pub sections_at : List (List ℕ) → Outcome (List ℕ) (List SectionContents)
sections_at lines = chain_at {S = Unit {0}} (λ s. left_only section_head_of)
    (λ s. section_behind_at) (λ s v. s) (λ s. true) (length lines) tt lines

-- the lines of a display with tests
unfoldable pub tested_lines_at : List (List ℕ) → Outcome (List ℕ) (List LineContents)
tested_lines_at = run_at (left_only tested_line_of)

-- the display
unfoldable pub display_at : List (List ℕ) → Outcome (List ℕ) (List LineContents)
display_at lines = do
  head ← one_at (left_only display_head_of) lines
  tested ← tested_lines_at head.1
  last ← one_at (left_only last_line_of) tested.1
  Ok (tested.0 ++ last.0 ∷ [], last.1)

-- a script
unfoldable pub script_at : List (List ℕ) → Outcome (List ℕ) ScriptParts
script_at lines = do
  before ← sections_at lines
  shown ← display_at before.1
  rest ← sections_at shown.1
  Ok (record { sections = before.0 ++ rest.0; lines = shown.0 }, rest.1)
