-- What the items of a set aim at: docs/DEFINITIONS.md, "Calls from C".
use Rattle.std.specs.Prelude.{ℕ, ◌==◌, ◌&&◌, Bool, true, false, if◌then◌else◌, Option, None, Some, List, [], ◌∷◌}
use Rattle.ra_operand.specs.declared.operand.Operand.{Operand}
use Rattle.ra_operand.specs.declared.operand.Operand.TheVariants.{Const}
use Rattle.ra_condition.specs.Contents.{TriggerContents, groups_of}
use Rattle.ra_condition.specs.declared.condition.Condition.{Condition}
use Rattle.ra_condition.specs.declared.flag.Flag.{Flag}
use Rattle.ra_condition.specs.declared.flag.Flag.TheVariants.{Measured, MeasuredPercent}
use Rattle.ra_set.specs.Contents.{ItemContents, Unlocks, Ranks}
use Rattle.ra_value_format.specs.declared.format.Format.{Format}
use Rattle.ra_value_format.specs.declared.format.Format.TheVariants.{Value}
use Rattle.ra_goals.specs.declared.goal.Goal.{Goal}
use Rattle.ra_goals.specs.declared.goal.GoalKind.{GoalKind}
use Rattle.ra_goals.specs.declared.goal.GoalKind.TheVariants.{Achievement, Leaderboard}

-- whether a condition measures, by its flag
abbrev pub measures : Flag → Bool
measures Measured = true
measures MeasuredPercent = true
measures _ = false

-- whether it measures a part of its target
abbrev pub is_percent : Flag → Bool
is_percent MeasuredPercent = true
is_percent _ = false

-- the first condition of a group that measures
abbrev pub first_measured : List Condition → Option Condition
first_measured [] = None
first_measured (c ∷ cs) = if measures c.flag then Some c else first_measured cs

-- the first of two that is there
abbrev pub or_else : Option Condition → Option Condition → Option Condition
or_else (Some c) other = Some c
or_else None other = other

-- the first condition of some groups that measures
abbrev pub first_in : List (List Condition) → Option Condition
first_in [] = None
first_in (group ∷ groups) = or_else (first_measured group) (first_in groups)

-- the first condition of a trigger that measures, the core first
abbrev pub measured_of : TriggerContents → Option Condition
measured_of t = first_in (groups_of t)

-- the number of a constant; 0 of another operand
abbrev pub constant : Operand → ℕ
constant (Const number) = number
constant _ = 0

-- the number that a condition measures up to: its hit target, or else its right number
abbrev pub target_of : Condition → ℕ
target_of c = if c.target == 0 then constant c.right else c.target

-- what an achievement aims at, by its first condition that measures
abbrev pub achievement_goal : (id : ℕ) → Option Condition → Goal
achievement_goal id None = record { kind = Achievement; id = id; target = 0; percent = false; format = Value }
achievement_goal id (Some c) =
    record { kind = Achievement; id = id; target = target_of c; percent = is_percent c.flag; format = Value }

-- what an item aims at
abbrev pub goal_of : ItemContents → Goal
goal_of (Unlocks id t) = achievement_goal id (measured_of t)
goal_of (Ranks id format b) = record { kind = Leaderboard; id = id; target = 0; percent = false; format = format }

-- whether a goal is of a leaderboard
abbrev pub is_board : GoalKind → Bool
is_board Achievement = false
is_board Leaderboard = true

-- the format of the leaderboard of an id, where there is one
abbrev pub format_in : (id : ℕ) → List Goal → Option Format
format_in id [] = None
format_in id (goal ∷ goals) = if (goal.id == id) && is_board goal.kind then Some goal.format else format_in id goals
