-- The grammar of values: docs/DEFINITIONS.md, "Values".
use Rattle.std.specs.Prelude.{ℕ, Bool, ◌||◌, List, ◌∷◌, Option, Some, None, codes}
use Rattle.ra_operand.specs.declared.operand.Operand.{Operand}
use Rattle.ra_operand.specs.Grammar.{operand}
use Rattle.ra_condition.specs.declared.condition.Condition.{Condition}
use Rattle.ra_condition.specs.declared.part.Term.{Term}
use Rattle.ra_condition.specs.declared.setting.Setting.TheVariants.{InValue}
use Rattle.ra_condition.specs.Contents.{PartContents, Legacy, Grouped}
use Rattle.ra_condition.specs.Flags.{is_measured}
use Rattle.ra_condition.specs.Grammar.{flagged, condition}
use Rattle.ra_text.specs.Chain.{Chain, joined}
use Rattle.ra_text.specs.Form.{Form, Spell, One, ◌>>=◌, ◌or◌}
use Rattle.ra_text.specs.Table.{only}

-- a condition that measures is among those so far, or this one is
abbrev pub measured_by : Bool → Condition → Bool
measured_by so_far c = so_far || is_measured c.flag

-- vcond { "_" vcond }, where the first has a flag, and the text ends only where some are M or G
abbrev pub measured_conditions : Form ℕ (List Condition)
measured_conditions = do
  first ← flagged InValue
  others ← Chain (λ so_far. only (codes "_")) (λ so_far tag. condition InValue) measured_by
      (λ so_far. so_far) (is_measured first.flag)
  Spell (first ∷ others)

-- a part of conditions, whose measured number counts
abbrev pub condition_part : Form ℕ PartContents
condition_part = do
  cs ← measured_conditions
  Spell (Grouped cs)

-- "*" operand
abbrev pub times : Form ℕ (Option Operand)
times = do
  star ← One (only (codes "*"))
  right ← operand
  Spell (Some right)

-- operand [ "*" operand ]
abbrev pub term : Form ℕ Term
term = do
  left ← operand
  factor ← times or Spell None
  Spell (record { operand = left; factor = factor })

-- term { "_" term }
abbrev pub term_part : Form ℕ PartContents
term_part = do
  ts ← joined (only (codes "_")) term
  Spell (Legacy ts)

-- a part of conditions, or of terms
abbrev pub part : Form ℕ PartContents
part = condition_part or term_part

-- part { "$" part }
abbrev pub value : Form ℕ (List PartContents)
value = joined (only (codes "$")) part
