-- The script of a file as a review judges it: docs/DEFINITIONS.md, "Review of a set".
use Rattle.std.specs.Prelude.{◌≡◌, ◌⊎◌, ℕ, suc, ◌+◌, ◌&&◌, Bool, true, false, if◌then◌else◌, List, [], ◌∷◌, ◌++◌, take}
use Rattle.std.specs.Prelude.{map, Option, None, Some, codes, bytes_eq, slice_index_or}
use Rattle.std.specs.List.{flat_map}
use Rattle.ra_text.specs.Form.{Form}
use Rattle.ra_text.specs.Place.{IsBadPlace}
use Rattle.ra_text.specs.Reading.{begins}
use Rattle.ra_text.specs.Table.{is_in, only}
use Rattle.ra_richpresence.specs.declared.meaning.Meaning.{Meaning}
use Rattle.ra_richpresence.specs.declared.meaning.Meaning.TheVariants as shows
use Rattle.ra_richpresence.specs.Contents.{LineContents, PieceContents, Bytes, Shows, ScriptContents}
use Rattle.ra_richpresence.specs.Cut.{content_of, contents_of, is_nothing, left_of}
use Rattle.ra_richpresence.specs.Grammar.{ScriptParts, script_parts, script_of, tested_line, last_line}
use Rattle.ra_richpresence.specs.Meanings.{meaning_of}
use Rattle.ra_richpresence.specs.Places.{IsOutside}
use Rattle.ra_review.specs.Shown.{refusal, macro_line}

-- ---- where a script is refused

-- a line of an open display: a test and pieces, or pieces that are not empty and do not begin with `?`
abbrev pub display_line : Form ℕ LineContents
display_line text line = tested_line text line ⊎ ((text ≡ [] → ⊥) × last_line text line)

-- whether a display is open after lines of which this remains: a line `Display:`, and after it only lines that begin
-- with `?`
abbrev pub is_open_after : Bool → List (List ℕ) → Bool
is_open_after shown [] = shown
is_open_after true (line ∷ lines) =
    if is_nothing line then is_open_after true lines
    else begins (is_in (only (codes "?"))) line && is_open_after true lines
is_open_after false (line ∷ lines) = is_open_after (bytes_eq (codes "Display:") line) lines

-- a display is open after the first lines of a script
abbrev pub is_open : List (List ℕ) → Bool
is_open contents = is_open_after false (map left_of contents)

-- the place in a bad line: in an open display the first bad place of what remains of it, and else its start
abbrev pub IsPlaceIn : (shows : Bool) → List ℕ → ℕ → Type 0
IsPlaceIn true line place = IsBadPlace display_line (left_of line) place
IsPlaceIn false line place = place ≡ 0

-- the script is refused at a line, counted from 0, and at a place in it; after the last line one counts that is empty
pub record IsBadLine (text : List ℕ) (index place : ℕ) : Type 0 where
  pub start : ℕ
  pub outside : IsOutside text start
  pub line : index ≡ outside.first_bad.index
  pub place_in : IsPlaceIn (is_open (take index (contents_of text))) (slice_index_or (contents_of text) index []) place

-- ---- macros of the display

-- the numbers of the lines of which something remains, where they begin with this number
abbrev pub kept_numbers : ℕ → List (List ℕ) → List ℕ
kept_numbers number [] = []
kept_numbers number (line ∷ lines) =
    if is_nothing (left_of line) then kept_numbers (suc number) lines else number ∷ kept_numbers (suc number) lines

-- the numbers of the lines of the display: those of which something remains, after the first of which `Display:`
-- remains
abbrev pub display_numbers : ℕ → List (List ℕ) → List ℕ
display_numbers number [] = []
display_numbers number (line ∷ lines) =
    if bytes_eq (codes "Display:") (left_of line) then kept_numbers (suc number) lines
    else display_numbers (suc number) lines

-- the macro shows that it is unknown
abbrev pub is_unknown : Meaning → Bool
is_unknown shows.Unknown = true
is_unknown _ = false

-- the notices on the pieces of a line
abbrev pub piece_notices : ScriptContents → ℕ → PieceContents → List (List ℕ)
piece_notices script number (Bytes text) = []
piece_notices script number (Shows name value) =
    if is_unknown (meaning_of script.lookups script.formats name) then macro_line number name ∷ [] else []

-- the notices on lines of the display, each with its number in the file
abbrev pub macro_notices : ScriptContents → List ℕ → List LineContents → List (List ℕ)
macro_notices script [] lines = []
macro_notices script (number ∷ numbers) [] = []
macro_notices script (number ∷ numbers) (line ∷ lines) =
    flat_map (piece_notices script number) line.pieces ++ macro_notices script numbers lines

-- ---- what a script gives

-- there is no script; or it is one, of these parts; or it is refused at a line and a place in it
pub data ScriptVerdict : Type 0 where
  Missing : ScriptVerdict
  Whole : ScriptParts → ScriptVerdict
  BadAt : (index place : ℕ) → ScriptVerdict

-- the verdict on the lines of a script, where there is one
abbrev pub IsScriptVerdict : Option (List (List ℕ)) → ScriptVerdict → Type 0
IsScriptVerdict None Missing = Unit {0}
IsScriptVerdict (Some lines) (Whole parts) = script_parts (flat_map (λ line. line) lines) parts
IsScriptVerdict (Some lines) (BadAt index place) = IsBadLine (flat_map (λ line. line) lines) index place
IsScriptVerdict _ _ = ⊥

-- the refusal of a script whose first line has this number
abbrev pub script_refusals : (number : ℕ) → Option (List (List ℕ)) → ScriptVerdict → List (List ℕ)
script_refusals number (Some lines) (BadAt index place) =
    refusal (number + index) place (slice_index_or (map content_of lines) index []) ∷ []
script_refusals number _ _ = []

-- the notices on a script whose first line has this number
abbrev pub script_notices : (number : ℕ) → Option (List (List ℕ)) → ScriptVerdict → List (List ℕ)
script_notices number (Some lines) (Whole parts) =
    macro_notices (script_of parts) (display_numbers number (map content_of lines)) parts.lines
script_notices number _ _ = []

-- the parts of a script, where it is one
abbrev pub parts_in : ScriptVerdict → Option ScriptParts
parts_in (Whole parts) = Some parts
parts_in _ = None
