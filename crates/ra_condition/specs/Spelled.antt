-- The structure of the triggers and values that some text spells: docs/DEFINITIONS.md, "What texts spell".
use Rattle.std.specs.Prelude.{◌≡◌, ◌^◌, ◌<◌, Bool, true, false, not, ◌||◌, List, [], ◌∷◌, length, Option, Some, None}
use Rattle.std.specs.Prelude.{All}
use Rattle.ra_operand.specs.declared.op.Op.{Op}
use Rattle.ra_operand.specs.declared.operand.Operand.{Operand}
use Rattle.ra_operand.specs.declared.operand.Operand.TheVariants.{Const}
use Rattle.ra_operand.specs.Fitting.{Fits32}
use Rattle.ra_operand.specs.Operators.{is_arithmetic, is_bare}
use Rattle.ra_condition.specs.declared.condition.Condition.{Condition}
use Rattle.ra_condition.specs.declared.flag.Flag.TheVariants.{Plain}
use Rattle.ra_condition.specs.declared.part.Term.{Term}
use Rattle.ra_condition.specs.declared.setting.Setting.{Setting}
use Rattle.ra_condition.specs.declared.setting.Setting.TheVariants.{InTrigger, InValue}
use Rattle.ra_condition.specs.Contents.{TriggerContents, PartContents, Legacy, Grouped}
use Rattle.ra_condition.specs.Flags.{hands_on, is_measured}
use Rattle.ra_condition.specs.Grammar.{stands_bare}

-- the operator fits a condition: arithmetic or none where it hands a value on, else a comparison, or none where it may
-- stand bare
abbrev pub takes_op : (hands_on stands_bare : Bool) → Op → Bool
takes_op true may op = is_bare op || is_arithmetic op
takes_op false true op = not (is_arithmetic op)
takes_op false false op = not (is_bare op || is_arithmetic op)

-- some text of a trigger, or of a value, spells the condition
pub record IsCondition (setting : Setting) (c : Condition) : Type 0 where
  pub op : takes_op (hands_on c.flag) (stands_bare setting c.flag) c.op ≡ true
  pub left : Fits32 c.left
  pub right : Fits32 c.right
  pub target : c.target < 2 ^ 32
  pub bare_right : is_bare c.op ≡ true → c.right ≡ Const 0
  pub bare_target : is_bare c.op ≡ true → c.target ≡ 0
  pub handed_target : hands_on c.flag ≡ true → c.target ≡ 0

-- some text spells the group of a trigger: each of its conditions is spelled
abbrev pub IsTriggerGroup : List Condition → Type 0
IsTriggerGroup = All (IsCondition InTrigger)

-- some text spells the trigger: each condition of each of its groups is spelled
pub record IsTrigger (t : TriggerContents) : Type 0 where
  pub core : IsTriggerGroup t.core
  pub alts : All IsTriggerGroup t.alts

-- some condition measures
abbrev pub some_measured : List Condition → Bool
some_measured [] = false
some_measured (c ∷ cs) = is_measured c.flag || some_measured cs

-- the first condition has a flag; without conditions there is none
abbrev pub first_flagged : List Condition → Type 0
first_flagged [] = Unit {0} → ⊥
first_flagged (c ∷ cs) = c.flag ≡ Plain → ⊥

-- some text spells the group of a value: the first condition has a flag, and some condition measures
pub record IsValueGroup (cs : List Condition) : Type 0 where
  pub conditions : All (IsCondition InValue) cs
  pub flagged : first_flagged cs
  pub measured : some_measured cs ≡ true

-- the number of the factor is one of 32 bits, if there is a factor
abbrev pub FitsFactor : Option Operand → Type 0
FitsFactor (Some factor) = Fits32 factor
FitsFactor None = Unit {0}

-- some text spells the term: its numbers are of 32 bits
pub record IsTerm (t : Term) : Type 0 where
  pub operand : Fits32 t.operand
  pub factor : FitsFactor t.factor

-- some text spells the part: at least one term, each of them spelled, or a group of a value
abbrev pub IsPart : PartContents → Type 0
IsPart (Legacy terms) = (0 < length terms) × All IsTerm terms
IsPart (Grouped conditions) = IsValueGroup conditions

-- some text spells the value: at least one part, each of them spelled
pub record IsValue (parts : List PartContents) : Type 0 where
  pub some : 0 < length parts
  pub each : All IsPart parts
