-- What the normal text of a set contains: docs/DEFINITIONS.md, "Normal text".
use Rattle.std.specs.Prelude.{Option, None, Some, option_map, List, [], ◌∷◌, ◌++◌, map}
use Rattle.ra_operand.specs.declared.operand.Operand.{Operand}
use Rattle.ra_operand.specs.declared.operand.Operand.TheVariants.{Const}
use Rattle.ra_operand.specs.declared.op.Op.TheVariants.{Bare, Mul}
use Rattle.ra_condition.specs.declared.flag.Flag.TheVariants.{AddSource, Measured}
use Rattle.ra_condition.specs.declared.condition.Condition.{Condition}
use Rattle.ra_condition.specs.declared.part.Term.{Term}
use Rattle.ra_condition.specs.Contents.{PartContents, Legacy, Grouped}
use Rattle.ra_leaderboard.specs.Contents.{BoardContents}
use Rattle.ra_set.specs.Contents.{ItemContents, Unlocks, Ranks}

-- "A:" operand, or "A:" operand "*" factor
abbrev pub adding : Operand → Option Operand → Condition
adding operand None = record { flag = AddSource; left = operand; op = Bare; right = Const 0; target = 0 }
adding operand (Some factor) = record { flag = AddSource; left = operand; op = Mul; right = factor; target = 0 }

-- a term of a legacy part as a condition
abbrev pub term_condition : Term → Condition
term_condition t = adding t.operand t.factor

-- "M:0"
abbrev pub measured_zero : Condition
measured_zero = record { flag = Measured; left = Const 0; op = Bare; right = Const 0; target = 0 }

-- the conditions of a legacy part
abbrev pub legacy_conditions : List Term → List Condition
legacy_conditions terms = map term_condition terms ++ measured_zero ∷ []

-- a legacy part becomes a condition part
abbrev pub normal_part : PartContents → PartContents
normal_part (Legacy terms) = Grouped (legacy_conditions terms)
normal_part (Grouped cs) = Grouped cs

-- the values of a board
abbrev pub normal_value : List PartContents → List PartContents
normal_value parts = map normal_part parts

-- a board, with its triggers as they are
abbrev pub normal_board : BoardContents → BoardContents
normal_board b = record b { value = normal_value b.value; progress = option_map normal_value b.progress }

-- an item
abbrev pub normal_item : ItemContents → ItemContents
normal_item (Unlocks id t) = Unlocks id t
normal_item (Ranks id format b) = Ranks id format (normal_board b)
