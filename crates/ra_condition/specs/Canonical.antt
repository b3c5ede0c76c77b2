-- The canonical text of conditions, triggers and values: docs/DEFINITIONS.md, "Canonical text".
use Rattle.std.specs.Prelude.{ℕ, ◌==◌, if◌then◌else◌, List, [], ◌∷◌, ◌++◌, Option, Some, None, codes}
use Rattle.std.specs.Fmt.{decimal}
use Rattle.std.specs.List.{flat_map}
use Rattle.ra_operand.specs.declared.op.Op.{Op}
use Rattle.ra_operand.specs.declared.op.Op.TheVariants.{Bare, Eq, Ne, Lt, Le, Gt, Ge, Mul, Div, And, Xor, Rem, Add, Sub}
use Rattle.ra_operand.specs.declared.operand.Operand.{Operand}
use Rattle.ra_operand.specs.Canonical.{operand_text}
use Rattle.ra_operand.specs.Operators.{is_bare}
use Rattle.ra_condition.specs.declared.condition.Condition.{Condition}
use Rattle.ra_condition.specs.declared.flag.Flag.{Flag}
use Rattle.ra_condition.specs.declared.flag.Flag.TheVariants.{Plain, PauseIf, ResetIf, AddSource, SubSource, AddHits}
use Rattle.ra_condition.specs.declared.flag.Flag.TheVariants.{SubHits, AndNext, OrNext, Measured, MeasuredPercent}
use Rattle.ra_condition.specs.declared.flag.Flag.TheVariants.{MeasuredIf, AddAddress, TriggerIf, ResetNextIf, Remember}
use Rattle.ra_condition.specs.declared.part.Term.{Term}
use Rattle.ra_condition.specs.Contents.{TriggerContents, PartContents, Legacy, Grouped}

-- the letter of a flag in upper case, and a colon
abbrev pub flag_text : Flag → List ℕ
flag_text Plain = []
flag_text PauseIf = codes "P:"
flag_text ResetIf = codes "R:"
flag_text AddSource = codes "A:"
flag_text SubSource = codes "B:"
flag_text AddHits = codes "C:"
flag_text SubHits = codes "D:"
flag_text AndNext = codes "N:"
flag_text OrNext = codes "O:"
flag_text Measured = codes "M:"
flag_text MeasuredPercent = codes "G:"
flag_text MeasuredIf = codes "Q:"
flag_text AddAddress = codes "I:"
flag_text TriggerIf = codes "T:"
flag_text ResetNextIf = codes "Z:"
flag_text Remember = codes "K:"

-- the sign of an operator
abbrev pub op_text : Op → List ℕ
op_text Bare = []
op_text Eq = codes "="
op_text Ne = codes "!="
op_text Lt = codes "<"
op_text Le = codes "<="
op_text Gt = codes ">"
op_text Ge = codes ">="
op_text Mul = codes "*"
op_text Div = codes "/"
op_text And = codes "&"
op_text Xor = codes "^"
op_text Rem = codes "%"
op_text Add = codes "+"
op_text Sub = codes "-"

-- a target between points, and nothing for none
abbrev pub target_text : ℕ → List ℕ
target_text n = if n == 0 then [] else codes "." ++ (decimal n ++ codes ".")

-- the operator with what follows it, and nothing without an operator
abbrev pub tail_text : Op → Operand → ℕ → List ℕ
tail_text op right target = if is_bare op then [] else op_text op ++ (operand_text right ++ target_text target)

-- the text of a condition: the flag, the left operand, and the tail
abbrev pub condition_text : Condition → List ℕ
condition_text c = flag_text c.flag ++ (operand_text c.left ++ tail_text c.op c.right c.target)

-- the texts of items with a byte between them
abbrev pub joined_text : {X : Type 0} → ℕ → (X → List ℕ) → List X → List ℕ
joined_text separator text [] = []
joined_text separator text (x ∷ xs) = text x ++ flat_map (λ y. separator ∷ text y) xs

-- the text of a group: conditions with `_` between them
abbrev pub group_text : List Condition → List ℕ
group_text = joined_text 95 condition_text

-- the text of a trigger: the core, and each alt group after an `S`
abbrev pub trigger_text : TriggerContents → List ℕ
trigger_text t = group_text t.core ++ flat_map (λ alt. 83 ∷ group_text alt) t.alts

-- a factor after a `*`, and nothing for none
abbrev pub factor_text : Option Operand → List ℕ
factor_text (Some factor) = 42 ∷ operand_text factor
factor_text None = []

-- the text of a legacy term: the operand, and its factor
abbrev pub term_text : Term → List ℕ
term_text t = operand_text t.operand ++ factor_text t.factor

-- the text of a part: terms or conditions with `_` between them
abbrev pub part_text : PartContents → List ℕ
part_text (Legacy terms) = joined_text 95 term_text terms
part_text (Grouped conditions) = group_text conditions

-- the text of a value: parts with `$` between them
abbrev pub value_text : List PartContents → List ℕ
value_text = joined_text 36 part_text
