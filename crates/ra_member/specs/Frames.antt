-- What the tests and values of a member do at one frame: docs/DEFINITIONS.md, "Triggers over frames" and "Values over
-- frames".
use Rattle.std.specs.Prelude.{ℕ, Bool, List, map}
use Rattle.std.specs.List.{flat_map}
use Rattle.ra_operand.specs.Operators.{compared}
use Rattle.ra_condition.specs.declared.condition.Condition.{Condition}
use Rattle.ra_condition.specs.Contents.{condition_at, TriggerContents, groups_of, PartContents, Legacy, Grouped}
use Rattle.ra_condition.specs.Contents.{counted_in}
use Rattle.ra_condition.specs.Chains.{places}
use Rattle.ra_memory.specs.Image.{History}
use Rattle.ra_chain.specs.Elaboration.{left_of, right_of, terms_tree}
use Rattle.ra_memref.specs.Values.{Start, value_of}
use Rattle.ra_trigger.specs.Steps.{TriggerKept, step as trigger_step, truth, hits_after_truth}
use Rattle.ra_value.specs.Steps.{ValueKept, step as value_step}

-- the left value of a condition at the last frame
abbrev pub left_at : Start → History → List Condition → ℕ → ℕ
left_at start history cs j = value_of start (left_of cs j) history

-- whether the comparison of a condition holds at the last frame
abbrev pub truth_at : Start → History → List Condition → ℕ → Bool
truth_at start history cs j =
    compared (condition_at cs j).op (left_at start history cs j) (value_of start (right_of cs j) history)

-- the left values of all conditions of some groups at the last frame
abbrev pub lefts_at : Start → History → List (List Condition) → List ℕ
lefts_at start history groups = flat_map (λ cs. map (left_at start history cs) (places cs)) groups

-- whether the comparison of each condition of some groups holds at the last frame
abbrev pub truths_at : Start → History → List (List Condition) → List Bool
truths_at start history groups = flat_map (λ cs. map (truth_at start history cs) (places cs)) groups

-- an achievement after the last frame, from what was kept before it
abbrev pub achievement_next : Start → TriggerContents → History → TriggerKept → TriggerKept
achievement_next start t history kept =
    trigger_step t (truths_at start history (groups_of t)) (lefts_at start history (groups_of t)) kept

-- the hits of a test after the last frame, from those before it
abbrev pub test_next : Start → TriggerContents → History → List ℕ → List ℕ
test_next start t history hits =
    hits_after_truth t (truths_at start history (groups_of t)) (lefts_at start history (groups_of t)) hits

-- whether a test is true at the last frame, from its hits before it
abbrev pub test_holds : Start → TriggerContents → History → List ℕ → Bool
test_holds start t history hits =
    truth t (truths_at start history (groups_of t)) (lefts_at start history (groups_of t)) hits

-- the sum of a legacy part at the last frame, and 0 for another part
abbrev pub sum_at : Start → History → PartContents → ℕ
sum_at start history (Legacy terms) = value_of start (terms_tree terms) history
sum_at start history (Grouped cs) = 0

-- a value after the last frame, from what was kept before it
abbrev pub value_next : Start → List PartContents → History → ValueKept → ValueKept
value_next start parts history kept =
    value_step parts (truths_at start history (map counted_in parts))
    (lefts_at start history (map counted_in parts)) (map (sum_at start history) parts) kept
