-- Lines of a script that are gone over: the step between the code and docs/DEFINITIONS.md, "Review of a set".
use Rattle.std.specs.Prelude.{◌≡◌, ℕ, suc, ◌+◌, drop, Bool, true, false, if◌then◌else◌, List, [], ◌∷◌, ◌++◌, length}
use Rattle.std.specs.Prelude.{map, codes, bytes_eq, slice_index_or}
use Rattle.ra_text.specs.Place.{IsBadPlace}
use Rattle.ra_text.specs.Reading.{begins}
use Rattle.ra_text.specs.Table.{is_in, only}
use Rattle.ra_richpresence.specs.Contents.{ScriptContents}
use Rattle.ra_richpresence.specs.Lines.{no_line}
use Rattle.std.specs.List.{flat_map}
use Rattle.ra_richpresence.specs.Cut.{contents_of, is_nothing, left_of, lines_of}
use Rattle.ra_review.specs.declared.entries.Entries.{Entries}
use Rattle.ra_review.specs.declared.macros.Passed.{Passed}
use Rattle.ra_review.specs.declared.script.Display.{Display}
use Rattle.ra_review.specs.declared.script.Display.TheVariants as opening
use Rattle.ra_review.specs.declared.script.Walked.{Walked}
use Rattle.ra_review.specs.Reporting.{AreEntries}
use Rattle.ra_review.specs.Scripts.{IsBadLine, display_line, display_numbers, is_open_after, kept_numbers}
use Rattle.ra_review.specs.Scripts.{macro_notices, piece_notices}
use Rattle.ra_review.specs.Shown.{refusal}

-- the display behind a line of which this remains
abbrev pub display_after : Display → List ℕ → Display
display_after opening.Before left = if bytes_eq (codes "Display:") left then opening.Open else opening.Before
display_after opening.Open left =
    if is_nothing left then opening.Open else if begins (is_in (only (codes "?"))) left
    then opening.Open else opening.Closed
display_after opening.Closed left = opening.Closed

-- whether the display is open after more lines of which this remains
abbrev pub opens : Display → List (List ℕ) → Bool
opens opening.Before lines = is_open_after false lines
opens opening.Open lines = is_open_after true lines
opens opening.Closed lines = false

-- the lines of a text were gone over
pub record Walks (text : List ℕ) (walked : Walked) : Type 0 where
  pub lines : walked.lines ≡ length (lines_of text)
  pub display : opens walked.display [] ≡ is_open_after false (map left_of (contents_of text))

-- the place in a line of which this remains, by whether a display is open
abbrev pub IsPlaceAfter : Display → List ℕ → ℕ → Type 0
IsPlaceAfter opening.Open left place = IsBadPlace display_line left place
IsPlaceAfter _ left place = place ≡ 0

-- the refusal of a script was added, whose first line has this number
pub record RefusesScript (number : ℕ) (text : List ℕ) (old new : Entries) : Type 0 where
  pub index : ℕ
  pub place : ℕ
  pub bad : IsBadLine text index place
  pub added : (entries : List (List ℕ)) → AreEntries old entries
      → AreEntries new (entries ++ refusal (number + index) place (slice_index_or (contents_of text) index []) ∷ [])

-- the notices on a line of the display of this index, whose number in the file this is
abbrev pub line_macros : ScriptContents → (number index : ℕ) → List (List ℕ)
line_macros script number index =
    flat_map (piece_notices script number) (slice_index_or script.lines index no_line).pieces

-- the numbers of the lines of the display that are left, by whether the line `Display:` was passed
abbrev pub numbers_left : (shown : Bool) → ℕ → List (List ℕ) → List ℕ
numbers_left true number contents = kept_numbers number contents
numbers_left false number contents = display_numbers number contents

-- the notices on what is left of a script
abbrev pub notices_left : ScriptContents → Passed → ℕ → List (List ℕ) → List (List ℕ)
notices_left script passed number contents = macro_notices script
    (numbers_left passed.shown number contents) (drop passed.lines script.lines)

-- a line of a script was passed, and the notices on it were added
pub record PassesLine (script : ScriptContents) (number : ℕ) (content : List ℕ) (passed : Passed)
    (old : Entries) (next : Passed) (new : Entries) : Type 0 where
  pub given : List (List ℕ)
  pub added : (entries : List (List ℕ)) → AreEntries old entries → AreEntries new (entries ++ given)
  pub rest : (contents : List (List ℕ)) → notices_left script passed number (content ∷ contents)
      ≡ given ++ notices_left script next (suc number) contents
