-- The parts of a presence script: docs/DEFINITIONS.md, "Presence scripts".
use Rattle.std.specs.Prelude.{ℕ, Option, None, Some, option_map, List, map, Vec}
use Rattle.std.specs.Global.{Global}
use Rattle.std.specs.List.{filter_map, flat_map}
use Rattle.ra_condition.specs.Contents.{TriggerContents, trigger_contents, PartContents, value_contents}
use Rattle.ra_value_format.specs.declared.format.Format.{Format}
use Rattle.ra_richpresence.specs.declared.piece.Piece.{Piece}
use Rattle.ra_richpresence.specs.declared.piece.Piece.TheVariants.{Text, Macro}
use Rattle.ra_richpresence.specs.declared.line.Line.{Line}
use Rattle.ra_richpresence.specs.declared.lookup.Keys.{Keys}
use Rattle.ra_richpresence.specs.declared.lookup.Lookup.{Lookup}

-- a piece of a line: bytes as they are, or the value of a macro under its name
pub data PieceContents : Type 0 where
  Bytes : List ℕ → PieceContents
  Shows : List ℕ → List PartContents → PieceContents

-- the contents of a piece of a line
abbrev pub piece_contents : Piece → PieceContents
piece_contents (Text text) = Bytes text.items
piece_contents (Macro name value) = Shows name.items (value_contents value)

-- a line of the display with its test, if it has one, and its pieces
pub record LineContents : Type 0 where
  pub test : Option TriggerContents
  pub pieces : List PieceContents

-- the contents of a line of the display
abbrev pub line_contents : Line → LineContents
line_contents l = record {
  test = option_map trigger_contents l.test;
  pieces = map piece_contents l.pieces.items;
}

-- a line of a lookup: ranges of keys, each from a first to a last, and their text
pub record KeysContents : Type 0 where
  pub ranges : List (ℕ × ℕ)
  pub text : List ℕ

-- the contents of a line of a lookup
abbrev pub keys_contents : Keys → KeysContents
keys_contents k = record { ranges = k.ranges.items; text = k.text.items }

-- a lookup: its name, its keys with their texts, and the text of all other numbers
pub record LookupContents : Type 0 where
  pub name : List ℕ
  pub keys : List KeysContents
  pub rest : Option (List ℕ)

-- the contents of a lookup
abbrev pub lookup_contents : Lookup → LookupContents
lookup_contents l = record {
  name = l.name.items;
  keys = map keys_contents l.keys.items;
  rest = option_map (λ text. text.items) l.rest;
}

-- a script: its lookups, its formats by name, and the lines of its display
pub record ScriptContents : Type 0 where
  pub lookups : List LookupContents
  pub formats : List (List ℕ × Format)
  pub lines : List LineContents

-- the value of a macro, if the piece is one
abbrev pub value_in : PieceContents → Option (List PartContents)
value_in (Bytes text) = None
value_in (Shows name value) = Some value

-- the values of a line's macros, in text order
abbrev pub values_in_line : LineContents → List (List PartContents)
values_in_line line = filter_map value_in line.pieces

-- the values of all macros of a script, in text order
abbrev pub values_in_script : ScriptContents → List (List PartContents)
values_in_script script = flat_map values_in_line script.lines

-- the contents of a format under its name
abbrev pub format_contents : Vec ℕ Global × Format → List ℕ × Format
format_contents f = (f.0.items, f.1)
