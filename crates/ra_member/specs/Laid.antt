-- Plans of groups with what their conditions compare, by the two rows in which they are kept: docs/DEFINITIONS.md,
-- "Trees of a group".
use Rattle.std.specs.Prelude.{ℕ, Option, List, Box, length, map, take, drop}
use Rattle.std.specs.Global.{Global}
use Rattle.ra_operand.specs.declared.op.Op.{Op}
use Rattle.ra_chain.specs.declared.plan.GroupPlan.{GroupPlan}
use Rattle.ra_member.specs.declared.laid.Many.{Many}
use Rattle.ra_member.specs.declared.sides.Sides.{Sides}

-- the plan of some groups: the pass order of their conditions, how many conditions of each group stand in pause chains,
-- and the nodes of the left and of the right side of each condition
pub record PlanSeen : Type 0 where
  pub order : List ℕ
  pub pauses : List ℕ
  pub lefts : List ℕ
  pub rights : List ℕ

-- what the rows of a plan hold
abbrev pub plan_rows : GroupPlan → PlanSeen
plan_rows plan = record {
  order = plan.order.items;
  pauses = plan.pauses.items;
  lefts = plan.lefts.items;
  rights = plan.rights.items;
}

-- a plan with the operator of each condition, and the room for what many conditions read
pub record LaidSeen : Type 0 where
  pub plan : PlanSeen
  pub ops : List Op
  pub room : Option (Box Many Global)

-- the nodes of the left sides
abbrev pub left_nodes : List Sides → List ℕ
left_nodes sides = map (λ s. s.left) sides

-- the nodes of the right sides
abbrev pub right_nodes : List Sides → List ℕ
right_nodes sides = map (λ s. s.right) sides

-- the operators between them
abbrev pub operators : List Sides → List Op
operators sides = map (λ s. s.op) sides

-- a plan by its turns and its sides: the turns are the pass order, which has an entry for each condition, and what
-- stands in pause chains behind it
abbrev pub laid_seen : (turns : List ℕ) → List Sides → Option (Box Many Global) → LaidSeen
laid_seen turns sides room = record {
  plan = record {
    order = take (length sides) turns;
    pauses = drop (length sides) turns;
    lefts = left_nodes sides;
    rights = right_nodes sides;
  };
  ops = operators sides;
  room = room;
}
