-- One piece of a presence line, and what a name stands for: docs/DEFINITIONS.md, "Presence over frames".
use Rattle.std.specs.Prelude.{◌≡◌, ℕ, List, [], ◌∷◌, Some, codes, ℤ}
use Rattle.std.specs.List.{slice_get}
use Rattle.ra_value_format.specs.declared.format.Format.{Format}
use Rattle.ra_value_format.specs.declared.format.Format.TheVariants.{Fixed, Float}
use Rattle.ra_richpresence.specs.Contents.{PieceContents, Bytes, Shows, LookupContents, ScriptContents}
use Rattle.ra_richpresence.specs.Lines.{looked_up, macro_text, first_or_zero}
use Rattle.ra_richpresence.specs.Meanings.{meaning_of}
use Rattle.ra_richpresence.specs.declared.meaning.Meaning.{Meaning}

-- the text of a piece; a macro shows the first of the values
abbrev pub piece_text : ScriptContents → PieceContents → List ℤ → List ℕ
piece_text script (Bytes text) vs = text
piece_text script (Shows name value) vs = macro_text script name (first_or_zero vs)

-- how many values a piece shows: one for a macro
abbrev pub values_of : PieceContents → ℕ
values_of (Bytes text) = 0
values_of (Shows name value) = 1

-- the text that a lookup has for a number
abbrev pub text_in : LookupContents → ℕ → List ℕ
text_in l n = looked_up l.keys l.rest n

-- the first of the meanings is that of the piece, if it is a macro
abbrev pub BeginsWithMeaning : ScriptContents → PieceContents → List Meaning → Type 0
BeginsWithMeaning script (Bytes text) meanings = Unit {0}
BeginsWithMeaning script (Shows name value) meanings =
    slice_get meanings 0 ≡ Some (meaning_of script.lookups script.formats name)

-- the built-in macros that write a point
abbrev pub point_macros : List (List ℕ × Format)
point_macros =
    (codes "Fixed1", Fixed 1) ∷ (codes "Fixed2", Fixed 2) ∷ (codes "Fixed3", Fixed 3)
    ∷ (codes "Float1", Float 1) ∷ (codes "Float2", Float 2) ∷ (codes "Float3", Float 3)
    ∷ (codes "Float4", Float 4) ∷ (codes "Float5", Float 5) ∷ (codes "Float6", Float 6) ∷ []
