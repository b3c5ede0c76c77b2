-- The structure of the scripts that some text spells: docs/DEFINITIONS.md, "What texts spell".
use Rattle.std.specs.Prelude.{List, [], ◌∷◌, ◌++◌, ◌≡◌, Some, None, All}
use Rattle.ra_condition.specs.Contents.{TriggerContents}
use Rattle.ra_condition.specs.Spelled.{IsTrigger, IsValue}
use Rattle.ra_richpresence.specs.Contents.{PieceContents, Bytes, Shows, LineContents, ScriptContents}
use Rattle.ra_value_format.specs.Formats.{HasDigits}

-- some text spells the piece: text that is not empty, or a macro of a value that is spelled
abbrev pub IsPiece : PieceContents → Type 0
IsPiece (Bytes text) = text ≡ [] → ⊥
IsPiece (Shows name value) = IsValue value

-- some text spells the line, which has a test
pub record IsTested (line : LineContents) : Type 0 where
  pub test : TriggerContents
  pub tested : line.test ≡ Some test
  pub spelled : IsTrigger test
  pub pieces : All IsPiece line.pieces

-- some text spells the line, which has no test
pub record IsUntested (line : LineContents) : Type 0 where
  pub untested : line.test ≡ None
  pub pieces : All IsPiece line.pieces

-- some text spells the lines of the display: all have a test but the last
pub record IsDisplay (lines : List LineContents) : Type 0 where
  pub front : List LineContents
  pub last : LineContents
  pub parts : lines ≡ front ++ last ∷ []
  pub tested : All IsTested front
  pub untested : IsUntested last

-- some text spells the script: its formats are those of names, and its lines those of a display
pub record IsScript (s : ScriptContents) : Type 0 where
  pub formats : All (λ format. HasDigits format.1) s.formats
  pub lines : IsDisplay s.lines
