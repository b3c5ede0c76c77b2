-- How a call that reads a list follows the reading of a form, unless memory runs out: the step between the code and
-- docs/DEFINITIONS.md, "First bad place".
use Rattle.std.specs.Prelude.{◌≡◌, ℕ, List, Result, Ok, Err}
use Rattle.ra_condition.specs.declared.fault.Fault.{Fault}
use Rattle.ra_condition.specs.declared.fault.Fault.TheVariants.{Stop, Memory}
use Rattle.ra_text.specs.Reading.{Outcome}

-- what a call returned, seen by its contents, and what it left, is what reading gives
abbrev pub GivesUnlessFull : {X V : Type 0} → (X → V) → Result X Fault → List ℕ → Outcome ℕ V → Type 0
GivesUnlessFull view (Ok x) rest outcome = outcome ≡ Ok (view x, rest)
GivesUnlessFull view (Err Stop) rest outcome = outcome ≡ Err rest
GivesUnlessFull view (Err Memory) rest outcome = Unit {0}
