-- Reading values from left to right: the step between the code and docs/DEFINITIONS.md, "Values".
use Rattle.std.specs.Prelude.{ℕ, List, ◌∷◌, length, Option, Some, None, Ok, codes}
use Rattle.ra_operand.specs.declared.operand.Operand.{Operand}
use Rattle.ra_operand.specs.Reading.{operand_at}
use Rattle.ra_condition.specs.declared.condition.Condition.{Condition}
use Rattle.ra_condition.specs.declared.part.Term.{Term}
use Rattle.ra_condition.specs.declared.setting.Setting.TheVariants.{InValue}
use Rattle.ra_condition.specs.Contents.{PartContents, Legacy, Grouped}
use Rattle.ra_condition.specs.Flags.{is_measured}
use Rattle.ra_condition.specs.Reading.{begins_flag, condition_at, flagged_at}
use Rattle.ra_condition.specs.Values.{measured_by}
use Rattle.ra_text.specs.Reading.{Outcome, ◌>>=◌, one_at, choice_at, begins, chain_at, joined_at}
use Rattle.ra_text.specs.Table.{is_in, only}

-- vcond { "_" vcond }, of which the first has a flag and some measure
unfoldable pub measured_conditions_at : List ℕ → Outcome ℕ (List Condition)
measured_conditions_at text = do
  first ← flagged_at InValue text
  others ← chain_at (λ so_far. only (codes "_")) (λ so_far tag. condition_at InValue) measured_by
      (λ so_far. so_far) (length first.1) (is_measured first.0.flag) first.1
  Ok (first.0 ∷ others.0, others.1)

-- a part of conditions
unfoldable pub condition_part_at : List ℕ → Outcome ℕ PartContents
condition_part_at text = do
  cs ← measured_conditions_at text
  Ok (Grouped cs.0, cs.1)

-- "*" operand
unfoldable pub times_at : List ℕ → Outcome ℕ (Option Operand)
times_at text = do
  star ← one_at (only (codes "*")) text
  right ← operand_at star.1
  Ok (Some right.0, right.1)

-- [ "*" operand ]
unfoldable pub factor_at : List ℕ → Outcome ℕ (Option Operand)
factor_at = choice_at (begins (is_in (only (codes "*")))) times_at (λ text. Ok (None, text))

-- operand [ "*" operand ]
unfoldable pub term_at : List ℕ → Outcome ℕ Term
term_at text = do
  left ← operand_at text
  factor ← factor_at left.1
  Ok (record { operand = left.0; factor = factor.0 }, factor.1)

-- term { "_" term }
unfoldable pub terms_at : List ℕ → Outcome ℕ (List Term)
terms_at = joined_at (only (codes "_")) term_at

-- a part of terms
unfoldable pub term_part_at : List ℕ → Outcome ℕ PartContents
term_part_at text = do
  ts ← terms_at text
  Ok (Legacy ts.0, ts.1)

-- part
unfoldable pub part_at : List ℕ → Outcome ℕ PartContents
part_at = choice_at begins_flag condition_part_at term_part_at

-- part { "$" part }
unfoldable pub value_at : List ℕ → Outcome ℕ (List PartContents)
value_at = joined_at (only (codes "$")) part_at
