-- Triggers and values with their plans, and what a frame of a table does to them: docs/DEFINITIONS.md, "Members".
use Rattle.std.specs.Prelude.{◌≡◌, ◌≤◌, ℕ, Bool, Option, None, Some, List, Box, length, map, take}
use Rattle.std.specs.Global.{Global}
use Rattle.ra_condition.specs.declared.condition.Condition.{Condition}
use Rattle.ra_condition.specs.Contents.{TriggerContents, groups_of, trigger_hits, PartContents, counted_in, value_hits}
use Rattle.ra_memory.specs.Image.{History}
use Rattle.ra_indirect.specs.declared.node.Node.{Node}
use Rattle.ra_indirect.specs.Pools.{spelled_by}
use Rattle.ra_chain.specs.Occurrence.{trees_in_trigger, trees_in_value}
use Rattle.ra_memref.specs.Values.{Start}
use Rattle.ra_memref.specs.Table.{TableSeen, spelled_value}
use Rattle.ra_set.specs.Limits.{value_conditions}
use Rattle.ra_trigger.specs.declared.change.Change.{Change}
use Rattle.ra_trigger.specs.Kept.{no_trigger, change_between}
use Rattle.ra_value.specs.Steps.{no_value}
use Rattle.ra_member.specs.declared.laid.Laid.{Laid}
use Rattle.ra_member.specs.declared.laid.Few.{Few}
use Rattle.ra_member.specs.declared.laid.Many.{Many}
use Rattle.ra_member.specs.declared.trigger_run.TriggerRun.{TriggerRun}
use Rattle.ra_member.specs.declared.value_run.ValueRun.{ValueRun}
use Rattle.ra_member.specs.Frames.{achievement_next, test_next, test_holds, value_next}
use Rattle.ra_member.specs.Plans.{IsPlan, AreSums, GrowsWithin}
use Rattle.ra_member.specs.Readings.{ops_of, numbers_at, truths_by, AreValued, sum_by_node}

-- the values of a table are those at the last frame of a history
abbrev pub HasValues : TableSeen → Start → History → Type 0
HasValues table start history = table.values ≡ map (spelled_value start history) (spelled_by table.nodes)

-- room for what this many conditions read: none where they are few, else an entry for each
abbrev pub HasRoom : ℕ → Option (Box Many Global) → Type 0
HasRoom count None = count ≤ 32
HasRoom count (Some room) =
    (length room.value.truths.items ≡ count) × (length room.value.lefts.items ≡ count)

-- the truths of this many conditions: those of the room where there is one
abbrev pub truths_of : ℕ → Option (Box Many Global) → Few → List Bool
truths_of count None few = take count few.truths
truths_of count (Some room) few = room.value.truths.items

-- the left values of this many conditions
abbrev pub lefts_of : ℕ → Option (Box Many Global) → Few → List ℕ
lefts_of count None few = take count few.lefts
lefts_of count (Some room) few = room.value.lefts.items

-- the truths of the conditions of a plan
abbrev pub truths_in : Laid → Few → List Bool
truths_in laid few = truths_of (length laid.ops) laid.room few

-- the left values of the conditions of a plan
abbrev pub lefts_in : Laid → Few → List ℕ
lefts_in laid few = lefts_of (length laid.ops) laid.room few

-- the plan of some groups with room for what their conditions read
pub record IsLaid (nodes : List Node) (groups : List (List Condition)) (laid : Laid) : Type 0 where
  pub plan : IsPlan nodes groups laid.plan
  pub ops : laid.ops ≡ ops_of groups
  pub room : HasRoom (length laid.ops) laid.room

-- the nodes have values, and there is one on each side of each operator
pub record MayFill (nodes : List Node) (laid : Laid) : Type 0 where
  pub lefts : AreValued nodes laid.plan.lefts
  pub rights : AreValued nodes laid.plan.rights
  pub left_nodes : length laid.plan.lefts ≡ length laid.ops
  pub right_nodes : length laid.plan.rights ≡ length laid.ops

-- truths and left values are those of the nodes; the plan stays
pub record IsFilled (values : List ℕ) (old new : Laid) (few : Few) : Type 0 where
  pub plan : new.plan ≡ old.plan
  pub ops : new.ops ≡ old.ops
  pub room : HasRoom (length new.ops) new.room
  pub lefts : lefts_in new few ≡ numbers_at values old.plan.lefts
  pub truths : truths_in new few ≡ truths_by old.ops (numbers_at values old.plan.lefts)
      (numbers_at values old.plan.rights)

-- a trigger with its plan
pub record IsTriggerRun (nodes : List Node) (t : TriggerContents) (run : TriggerRun) : Type 0 where
  pub laid : IsLaid nodes (groups_of t) run.laid
  pub hits : length run.trigger.hits ≡ trigger_hits t

-- a trigger has its plan over a pool that grew by its trees, and nothing is kept of it yet
pub record IsNewTrigger (old new : List Node) (t : TriggerContents) (run : TriggerRun) : Type 0 where
  pub grows : GrowsWithin old new (trees_in_trigger t) (trigger_hits t)
  pub run_too : IsTriggerRun new t run
  pub plain : run.trigger ≡ no_trigger t

-- one frame of a trigger without states
pub record StepsTest (table : TableSeen) (t : TriggerContents) (old new : TriggerRun) (holds : Bool) : Type 0 where
  pub truth : (start : Start) (history : History) → HasValues table start history → holds
      ≡ test_holds start t history old.trigger.hits
  pub hits : (start : Start) (history : History) → HasValues table start history → new.trigger.hits
      ≡ test_next start t history old.trigger.hits

-- one frame of an achievement, and what it tells
pub record StepsAchievement (table : TableSeen) (t : TriggerContents) (old new : TriggerRun)
    (change : Change) : Type 0 where
  pub kept : (start : Start) (history : History) → HasValues table start history → new.trigger
      ≡ achievement_next start t history old.trigger
  pub told : change ≡ change_between old.trigger new.trigger

-- a value with its plan
pub record IsValueRun (nodes : List Node) (parts : List PartContents) (run : ValueRun) : Type 0 where
  pub laid : IsLaid nodes (map counted_in parts) run.laid
  pub nodes_too : AreSums nodes parts run.nodes.items
  pub sums : length run.sums.items ≡ length parts
  pub hits : length run.value.hits ≡ value_hits parts
  pub numbers : length run.value.numbers ≡ length parts

-- a value has its plan over a pool that grew by its trees, and all its numbers are 0
pub record IsNewValue (old new : List Node) (parts : List PartContents) (run : ValueRun) : Type 0 where
  pub grows : GrowsWithin old new (trees_in_value parts) (value_conditions parts)
  pub run_too : IsValueRun new parts run
  pub plain : run.value ≡ no_value parts

-- what its conditions and its legacy parts read is taken up; all else stays
pub record IsRead (values : List ℕ) (old new : ValueRun) (few : Few) : Type 0 where
  pub laid : IsFilled values old.laid new.laid few
  pub nodes : new.nodes ≡ old.nodes
  pub sums : new.sums.items ≡ map (sum_by_node values) old.nodes.items
  pub value : new.value ≡ old.value

-- one frame of a value
abbrev pub StepsValue : TableSeen → List PartContents → (old new : ValueRun) → Type 0
StepsValue table parts old new =
    (start : Start) (history : History) → HasValues table start history → new.value
    ≡ value_next start parts history old.value
