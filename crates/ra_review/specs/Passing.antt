-- How far a line goes as one of the display: the step between the code and docs/DEFINITIONS.md, "Review of a set".
use Rattle.std.specs.Prelude.{◌≡◌, ℕ, List, [], ◌∷◌, ◌++◌, Result, Ok, Err}
use Rattle.ra_condition.specs.declared.fault.Fault.{Fault}
use Rattle.ra_condition.specs.declared.fault.Fault.TheVariants.{Stop, Memory}
use Rattle.ra_richpresence.specs.Contents.{PieceContents}
use Rattle.ra_richpresence.specs.Grammar.{pieces}
use Rattle.ra_richpresence.specs.Reading.{piece_at}
use Rattle.ra_text.specs.Form.{Form, Viable}
use Rattle.ra_review.specs.Scripts.{display_line}

-- what stands before the rest begins some text of the form, and no such text goes on as the rest does
pub record Stops {V : Type 0} (form : Form ℕ V) (text rest : List ℕ) : Type 0 where
  pub front : List ℕ
  pub parts : text ≡ front ++ rest
  pub viable : Viable form front
  pub halts : (symbol : ℕ) (others : List ℕ) → rest ≡ symbol ∷ others → Viable form (front ++ symbol ∷ []) → ⊥

-- a piece was passed, or none stands there, unless memory runs out
abbrev pub TakesPiece : Result (Unit {0}) Fault → List ℕ → List ℕ → Type 0
TakesPiece (Ok done) old new = (v : PieceContents) × (piece_at old ≡ Ok (v, new))
TakesPiece (Err Stop) old new = piece_at old ≡ Err new
TakesPiece (Err Memory) old new = Unit {0}

-- pieces were passed as far as they go, unless memory runs out
abbrev pub StopsPieces : Result (Unit {0}) Fault → List ℕ → List ℕ → Type 0
StopsPieces (Err Memory) old new = Unit {0}
StopsPieces (Err Stop) old new = Stops pieces old new
StopsPieces (Ok done) old new = Stops pieces old new × (new ≡ [])

-- a line was passed as far as it goes, unless memory runs out
abbrev pub StopsLine : Result (Unit {0}) Fault → List ℕ → List ℕ → Type 0
StopsLine (Err Memory) old new = Unit {0}
StopsLine (Err Stop) old new = Stops display_line old new
StopsLine (Ok done) old new = Stops display_line old new
