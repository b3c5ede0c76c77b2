-- The text of a presence line: docs/DEFINITIONS.md, "Presence over frames".
use Rattle.std.specs.Prelude.{ℕ, ◌&&◌, Bool, if◌then◌else◌, nat_le, Option, None, Some, List, [], ◌∷◌, ◌++◌, length}
use Rattle.std.specs.Prelude.{take, drop, codes, bytes_eq, ℤ, pos}
use Rattle.std.specs.List.{list_any, flat_map, slice_index_or}
use Rattle.std.specs.Int.{w32, cast_unsigned}
use Rattle.ra_value_format.specs.declared.format.Format.{Format}
use Rattle.ra_value_format.specs.declared.format.Format.TheVariants.{Value, Score, Secs, Hundredths, Minutes}
use Rattle.ra_value_format.specs.declared.format.Format.TheVariants.{SecsAsMins, Unsigned, Fixed, Float}
use Rattle.ra_value_format.specs.Formats.{formatted, entry_of}
use Rattle.ra_richpresence.specs.Parts.{PieceContents, Bytes, Shows, LineContents, KeysContents, LookupContents}
use Rattle.ra_richpresence.specs.Parts.{ScriptContents, values_in_line}

-- the ranges hold the number; a range that ends below its start holds nothing
abbrev pub holds : List (ℕ × ℕ) → ℕ → Bool
holds ranges n = list_any (λ range. nat_le range.0 n && nat_le n range.1) ranges

-- the text that a lookup has for all other numbers, empty where it has none
abbrev pub other_text : Option (List ℕ) → List ℕ
other_text None = []
other_text (Some text) = text

-- the text of the first keys that hold a number, else the text of all others
abbrev pub looked_up : List KeysContents → Option (List ℕ) → ℕ → List ℕ
looked_up [] rest n = other_text rest
looked_up (k ∷ ks) rest n = if holds k.ranges n then k.text else looked_up ks rest n

-- the lookup of a name, if there is one
abbrev pub lookup_of : List ℕ → List LookupContents → Option LookupContents
lookup_of name [] = None
lookup_of name (l ∷ ls) = if bytes_eq l.name name then Some l else lookup_of name ls

-- the macros that every script has
abbrev pub builtin_macros : List (List ℕ × Format)
builtin_macros =
    (codes "Number", Value) ∷ (codes "Score", Score) ∷ (codes "Centisecs", Hundredths) ∷ (codes "Seconds", Secs)
    ∷ (codes "Minutes", Minutes) ∷ (codes "SecondsAsMinutes", SecsAsMins) ∷ (codes "Unformatted", Unsigned)
    ∷ (codes "Fixed1", Fixed 1) ∷ (codes "Fixed2", Fixed 2) ∷ (codes "Fixed3", Fixed 3)
    ∷ (codes "Float1", Float 1) ∷ (codes "Float2", Float 2) ∷ (codes "Float3", Float 3)
    ∷ (codes "Float4", Float 4) ∷ (codes "Float5", Float 5) ∷ (codes "Float6", Float 6) ∷ []

-- the text of a macro without a lookup: by the script's format of its name, else the built-in one, else it is unknown
abbrev pub by_format : List ℕ → Option Format → Option Format → ℤ → List ℕ
by_format name (Some format) builtin v = formatted format v
by_format name None (Some format) v = formatted format v
by_format name None None v = codes "[Unknown macro]" ++ name

-- the text of a macro: by the lookup of its name if there is one, else by a format
abbrev pub by_lookup : ScriptContents → List ℕ → Option LookupContents → ℤ → List ℕ
by_lookup script name (Some l) v = looked_up l.keys l.rest (cast_unsigned w32 v)
by_lookup script name None v = by_format name (entry_of name script.formats) (entry_of name builtin_macros) v

-- the text of a macro of this name for a value
abbrev pub macro_text : ScriptContents → List ℕ → ℤ → List ℕ
macro_text script name v = by_lookup script name (lookup_of name script.lookups) v

-- the first value; one that is not there counts as 0
abbrev pub first_or_zero : List ℤ → ℤ
first_or_zero vs = slice_index_or vs 0 (pos 0)

-- the text of pieces, with the values of their macros in order
abbrev pub pieces_text : ScriptContents → List PieceContents → List ℤ → List ℕ
pieces_text script [] vs = []
pieces_text script (Bytes text ∷ pieces) vs = text ++ pieces_text script pieces vs
pieces_text script (Shows name value ∷ pieces) vs =
    macro_text script name (first_or_zero vs) ++ pieces_text script pieces (drop 1 vs)

-- a line without a test and without pieces
abbrev pub no_line : LineContents
no_line = record { test = None; pieces = [] }

-- the text of the line of this index, by the values of all macros of the script in text order
abbrev pub line_text : ScriptContents → ℕ → List ℤ → List ℕ
line_text script shown vs =
    pieces_text script (slice_index_or script.lines shown no_line).pieces
    (drop (length (flat_map values_in_line (take shown script.lines))) vs)
