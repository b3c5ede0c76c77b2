-- How calls follow the reading of lines, unless memory runs out: the step between the code and docs/DEFINITIONS.md,
-- "Presence scripts".
use Rattle.std.specs.Prelude.{◌≡◌, ℕ, ◌+◌, ◌≤◌, ◌==◌, Bool, true, false, List, [], ◌∷◌, ◌++◌, length, map, Option, Some}
use Rattle.std.specs.Prelude.{None, option_map, Result, Ok, Err}
use Rattle.ra_condition.specs.declared.fault.Fault.{Fault}
use Rattle.ra_condition.specs.declared.fault.Fault.TheVariants.{Stop, Memory}
use Rattle.ra_richpresence.specs.Contents.{Bytes}
use Rattle.ra_richpresence.specs.Reading.{all_at, piece_at}
use Rattle.ra_richpresence.specs.declared.script_line.ScriptLine.{ScriptLine}
use Rattle.ra_text.specs.Reading.{Outcome}

-- what a call returned for a whole line is what the line spells
abbrev pub SpellsUnlessFull : {X V : Type 0} → (X → V) → Result X Fault → Option V → Type 0
SpellsUnlessFull view (Ok x) found = found ≡ Some (view x)
SpellsUnlessFull view (Err Stop) found = found ≡ None
SpellsUnlessFull view (Err Memory) found = Unit {0}

-- the bytes of the lines
abbrev pub bytes_of : List ScriptLine → List (List ℕ)
bytes_of lines = map (λ line. line.bytes.now) lines

-- what a call returned, and what lines it left, is what reading gives
abbrev pub MovesUnlessFull : {X V : Type 0} → (X → V) → Result X Fault → List ScriptLine → Outcome (List ℕ) V → Type 0
MovesUnlessFull view (Ok x) rest outcome = outcome ≡ Ok (view x, bytes_of rest)
MovesUnlessFull view (Err Stop) rest outcome = outcome ≡ Err (bytes_of rest)
MovesUnlessFull view (Err Memory) rest outcome = Unit {0}

-- reading gives a value that what a call returned stands for, and leaves these lines
pub record MovesAs {X V : Type 0} (stands : X → V → Type 0) (x : X) (rest : List ScriptLine)
    (outcome : Outcome (List ℕ) V) : Type 0 where
  pub value : V
  pub read : outcome ≡ Ok (value, bytes_of rest)
  pub is : stands x value

-- what a call returned stands for what reading gives, and it left the same lines
abbrev pub MovesAsUnlessFull : {X V : Type 0} → (X → V → Type 0) → Result X Fault → List ScriptLine
    → Outcome (List ℕ) V → Type 0
MovesAsUnlessFull stands (Ok x) rest outcome = MovesAs stands x rest outcome
MovesAsUnlessFull stands (Err Stop) rest outcome = outcome ≡ Err (bytes_of rest)
MovesAsUnlessFull stands (Err Memory) rest outcome = Unit {0}

-- nothing is left, or a macro begins
abbrev pub ends_run : List ℕ → Bool
ends_run [] = true
ends_run (byte ∷ rest) = byte == 64

-- the text is the characters that stood there up to a macro or to the end, and the new bytes are those after them
pub record Run (old text new : List ℕ) : Type 0 where
  pub reads : all_at piece_at (length old) old ≡ option_map
      (λ pieces. map (λ byte. Bytes (byte ∷ [])) text ++ pieces) (all_at piece_at (length new) new)
  pub ends : ends_run new ≡ true
  pub shorter : length new + length text ≤ length old
  pub some : ends_run old ≡ false → text ≡ [] → ⊥

-- a run of characters was taken, unless memory runs out
abbrev pub TakesRun : {X : Type 0} → (X → List ℕ) → Result X Fault → List ℕ → List ℕ → Type 0
TakesRun view (Ok text) old new = Run old (view text) new
TakesRun view (Err Stop) old new = ⊥
TakesRun view (Err Memory) old new = Unit {0}

-- the fact holds of what a call that adds something leaves, unless memory runs out
abbrev pub AddsUnlessFull : Result (Unit {0}) Fault → Type 0 → Type 0
AddsUnlessFull (Ok done) fact = fact
AddsUnlessFull (Err Stop) fact = ⊥
AddsUnlessFull (Err Memory) fact = Unit {0}

-- the place and the bytes of a line
abbrev pub view_of : ScriptLine → ℕ × List ℕ
view_of line = (line.start, line.bytes.now)
