-- The grammar of presence scripts: docs/DEFINITIONS.md, "Presence scripts".
use Rattle.std.specs.Prelude.{◌≡◌, ℕ, Bool, true, false, if◌then◌else◌, List, [], ◌∷◌, ◌++◌, Option, Some, None, codes}
use Rattle.std.specs.Prelude.{bytes_eq}
use Rattle.std.specs.List.{list_any, filter_map}
use Rattle.ra_condition.specs.Contents.{TriggerContents}
use Rattle.ra_condition.specs.Grammar.{trigger}
use Rattle.ra_condition.specs.Values.{value}
use Rattle.ra_richpresence.specs.Contents.{PieceContents, Bytes, Shows, LineContents, KeysContents, LookupContents}
use Rattle.ra_richpresence.specs.Contents.{ScriptContents}
use Rattle.ra_richpresence.specs.Cut.{is_left, left_lines}
use Rattle.ra_text.specs.Chain.{joined}
use Rattle.ra_text.specs.Form.{Form, Spell, One, Literal, ◌>>=◌, ◌or◌, optional}
use Rattle.ra_text.specs.Number.{decimal, hexadecimal}
use Rattle.ra_text.specs.Reading.{begins}
use Rattle.ra_text.specs.Table.{is_in, lookup, bytes_for, only, only_letters}
use Rattle.ra_value_format.specs.declared.format.Format.{Format}
use Rattle.ra_value_format.specs.Formats.{format_of_name}

-- ---- repeated forms

-- a text of the item, and what comes after it
pub record Item {A V : Type 0} (item : Form A V) (others : List A → Type 0) (text : List A) (v : V) : Type 0 where
  pub front : List A
  pub behind : List A
  pub parts : text ≡ front ++ behind
  pub of_item : item front v
  pub of_others : others behind

-- { item }
abbrev pub many : {A V : Type 0} → Form A V → Form A (List V)
many item text [] = text ≡ []
many item text (v ∷ vs) = Item item (λ rest. many item rest vs) text v

-- any byte, for itself
abbrev pub any_byte : ℕ → Option ℕ
any_byte byte = Some byte

-- a byte other than these, for itself
abbrev pub other_than : List ℕ → ℕ → Option ℕ
other_than bytes byte = if is_in (only bytes) byte then None else Some byte

-- ---- the parts of a line

-- one or more bytes other than `(`, `)`, `@` and `\`
abbrev pub name : Form ℕ (List ℕ)
name = do
  first ← One (other_than (codes "()@\\"))
  others ← many (One (other_than (codes "()@\\")))
  Spell (first ∷ others)

-- 0x hexnum
abbrev pub hex_key : Form ℕ ℕ
hex_key = do
  zero ← One (only (codes "0"))
  x ← One (only_letters (codes "X"))
  hexadecimal

-- dec | 0x hexnum
abbrev pub key : Form ℕ ℕ
key = hex_key or decimal

-- "-" key
abbrev pub range_end : Form ℕ ℕ
range_end = do
  dash ← One (only (codes "-"))
  key

-- key [ "-" key ], where a key alone is a range from it to itself
abbrev pub range : Form ℕ (ℕ × ℕ)
range = do
  first ← key
  last ← range_end or Spell first
  Spell (first, last)

-- `\` and a byte, which stands for that byte
abbrev pub escape : Form ℕ ℕ
escape = do
  backslash ← One (only (codes "\\"))
  One any_byte

-- a character: a byte other than these and `\`, or an escape
abbrev pub character : List ℕ → Form ℕ ℕ
character others = One (other_than (codes "\\" ++ others)) or escape

-- { item }, and a `\` that ends the line and stands for itself, as this value
abbrev pub to_line_end : {V : Type 0} → Form ℕ V → V → Form ℕ (List V)
to_line_end item backslash = do
  items ← many item
  last ← optional (lookup (bytes_for (codes "\\") (backslash ∷ []))) []
  Spell (items ++ last)

-- the text of a lookup: characters up to the end of the line
abbrev pub lookup_text : Form ℕ (List ℕ)
lookup_text = to_line_end (character []) 92

-- "@" name "(" value ")"
abbrev pub macro : Form ℕ PieceContents
macro = do
  at ← One (only (codes "@"))
  macro_name ← name
  opening ← One (only (codes "("))
  shown ← value
  closing ← One (only (codes ")"))
  Spell (Shows macro_name shown)

-- a character that begins no macro, as a piece
abbrev pub shown_character : Form ℕ PieceContents
shown_character = do
  byte ← character (codes "@")
  Spell (Bytes (byte ∷ []))

-- pieces with a text before them, joined to a text that they begin with
abbrev pub text_before : List ℕ → List PieceContents → List PieceContents
text_before text [] = Bytes text ∷ []
text_before text (Bytes next ∷ pieces) = Bytes (text ++ next) ∷ pieces
text_before text (Shows macro_name shown ∷ pieces) = Bytes text ∷ Shows macro_name shown ∷ pieces

-- pieces with a piece before them
abbrev pub piece_before : PieceContents → List PieceContents → List PieceContents
piece_before (Bytes text) pieces = text_before text pieces
piece_before (Shows macro_name shown) pieces = Shows macro_name shown ∷ pieces

-- the pieces, with texts side by side joined to one
abbrev pub joined_texts : List PieceContents → List PieceContents
joined_texts [] = []
joined_texts (piece ∷ pieces) = piece_before piece (joined_texts pieces)

-- characters and macros up to the end of the line, texts side by side joined to one
abbrev pub pieces : Form ℕ (List PieceContents)
pieces = do
  found ← to_line_end (shown_character or macro) (Bytes (codes "\\"))
  Spell (joined_texts found)

-- ---- the lines

-- "Lookup:" name
abbrev pub lookup_head : Form ℕ (List ℕ)
lookup_head = do
  word ← Literal (codes "Lookup:")
  name

-- a line of a lookup: keys with their text, or the text of all other numbers
pub data EntryContents : Type 0 where
  Keyed : KeysContents → EntryContents
  Other : List ℕ → EntryContents

-- range { "," range } "="
abbrev pub keys : Form ℕ (List (ℕ × ℕ))
keys = do
  ranges ← joined (only (codes ",")) range
  equals ← One (only (codes "="))
  Spell ranges

-- keys, "=" and a text
abbrev pub keyed_entry : Form ℕ EntryContents
keyed_entry = do
  ranges ← keys
  text ← lookup_text
  Spell (Keyed (record { ranges = ranges; text = text }))

-- "*=" text
abbrev pub other_entry : Form ℕ EntryContents
other_entry = do
  star ← Literal (codes "*=")
  text ← lookup_text
  Spell (Other text)

-- a line of a lookup: keys with their text, or the text of all other numbers
abbrev pub entry : Form ℕ EntryContents
entry = keyed_entry or other_entry

-- "Format:" name
abbrev pub format_head : Form ℕ (List ℕ)
format_head = do
  word ← Literal (codes "Format:")
  name

-- "FormatType=" name
abbrev pub format_type : Form ℕ Format
format_type = do
  word ← Literal (codes "FormatType=")
  type_name ← name
  Spell (format_of_name type_name)

-- "Display:"
abbrev pub display_head : Form ℕ (Unit {0})
display_head = Literal (codes "Display:")

-- "?" trigger "?"
abbrev pub test : Form ℕ TriggerContents
test = do
  opening ← One (only (codes "?"))
  found ← trigger
  closing ← One (only (codes "?"))
  Spell found

-- "?" trigger "?" pieces, which may be none
abbrev pub tested_line : Form ℕ LineContents
tested_line = do
  found ← test
  shown ← pieces
  Spell (record { test = Some found; pieces = shown })

-- pieces without a test
abbrev pub untested_line : Form ℕ LineContents
untested_line = do
  shown ← pieces
  Spell (record { test = None; pieces = shown })

-- pieces, whose first byte is no `?`
abbrev pub last_line : Form ℕ LineContents
last_line text line = (begins (is_in (only (codes "?"))) text ≡ false) × untested_line text line

-- ---- the script, whose symbols are the lines that are left

-- one line of the form, as it may be left
pub record LineOf {V : Type 0} (form : Form ℕ V) (lines : List (List ℕ)) (v : V) : Type 0 where
  pub line : List ℕ
  pub alone : lines ≡ line ∷ []
  pub left : is_left line ≡ true
  pub of_form : form line v

-- a lookup under its name with its lines, or a format under its name
pub data SectionContents : Type 0 where
  Looks : List ℕ → List EntryContents → SectionContents
  Formats : List ℕ → Format → SectionContents

-- the keys of a line of a lookup, if it has some
abbrev pub keys_in : EntryContents → Option KeysContents
keys_in (Keyed found) = Some found
keys_in (Other text) = None

-- the text of all other numbers: that of the first `*` line, if there is one
abbrev pub first_other : List EntryContents → Option (List ℕ)
first_other [] = None
first_other (Keyed found ∷ entries) = first_other entries
first_other (Other text ∷ entries) = Some text

-- the lookup of a name and of its lines
abbrev pub lookup_with : List ℕ → List EntryContents → LookupContents
lookup_with lookup_name entries =
    record { name = lookup_name; keys = filter_map keys_in entries; rest = first_other entries }

-- a lookup: its name, and the lines that go on with it
abbrev pub lookup_section : Form (List ℕ) SectionContents
lookup_section = do
  lookup_name ← LineOf lookup_head
  entries ← many (LineOf entry)
  Spell (Looks lookup_name entries)

-- a format: its name, and on the next line its type
abbrev pub format_section : Form (List ℕ) SectionContents
format_section = do
  format_name ← LineOf format_head
  format ← LineOf format_type
  Spell (Formats format_name format)

-- a lookup or a format
abbrev pub section : Form (List ℕ) SectionContents
section = lookup_section or format_section

-- the display: its head, lines with tests, and the last line, which closes it
abbrev pub display : Form (List ℕ) (List LineContents)
display = do
  head ← LineOf display_head
  tested ← many (LineOf tested_line)
  last ← LineOf last_line
  Spell (tested ++ last ∷ [])

-- the name of a lookup or a format
abbrev pub name_of : SectionContents → List ℕ
name_of (Looks lookup_name entries) = lookup_name
name_of (Formats format_name format) = format_name

-- the name is among these
abbrev pub is_taken : List (List ℕ) → List ℕ → Bool
is_taken names wanted = list_any (λ taken. bytes_eq wanted taken) names

-- the sections whose name is not taken by an earlier one, nor among these
abbrev pub first_named : List (List ℕ) → List SectionContents → List SectionContents
first_named names [] = []
first_named names (s ∷ ss) = if is_taken names (name_of s) then first_named names ss
    else s ∷ first_named (name_of s ∷ names) ss

-- the lookup of a section, if it is one
abbrev pub lookup_in : SectionContents → Option LookupContents
lookup_in (Looks lookup_name entries) = Some (lookup_with lookup_name entries)
lookup_in (Formats format_name format) = None

-- the format of a section with its name, if it is one
abbrev pub format_in : SectionContents → Option (List ℕ × Format)
format_in (Looks lookup_name entries) = None
format_in (Formats format_name format) = Some (format_name, format)

-- the parts of a script: all its sections in order, also those whose name is taken, and the lines of its display
pub record ScriptParts : Type 0 where
  pub sections : List SectionContents
  pub lines : List LineContents

-- the script of these parts: of the sections that share a name the first is kept
abbrev pub script_of : ScriptParts → ScriptContents
script_of parts = record {
  lookups = filter_map lookup_in (first_named [] parts.sections);
  formats = filter_map format_in (first_named [] parts.sections);
  lines = parts.lines;
}

-- lookups and formats, with one display before, between or after them
abbrev pub script_lines : Form (List ℕ) ScriptParts
script_lines = do
  before ← many section
  lines ← display
  behind ← many section
  Spell (record { sections = before ++ behind; lines = lines })

-- the parts of a script, spelled by the lines that are left of its text
abbrev pub script_parts : Form ℕ ScriptParts
script_parts text = script_lines (left_lines text)

-- the text spells parts, and this is their script
pub record SpellsScript (text : List ℕ) (v : ScriptContents) : Type 0 where
  pub parts : ScriptParts
  pub spelled : script_parts text parts
  pub made : v ≡ script_of parts

-- the texts of scripts, each for the script of its parts
abbrev pub script : Form ℕ ScriptContents
script = SpellsScript
