-- The trees of groups, triggers and values in the order in which their cells occur: docs/DEFINITIONS.md, "Order of
-- first occurrence".
use Rattle.std.specs.Prelude.{List, [], ◌∷◌}
use Rattle.std.specs.List.{flat_map}
use Rattle.ra_condition.specs.declared.condition.Condition.{Condition}
use Rattle.ra_condition.specs.Contents.{TriggerContents, groups_of, PartContents, Legacy, Grouped}
use Rattle.ra_condition.specs.Chains.{pass_order}
use Rattle.ra_indirect.specs.Trees.{Tree}
use Rattle.ra_chain.specs.Elaboration.{left_of, right_of, terms_tree}

-- the trees of a group, its conditions in pass order, left before right
abbrev pub trees_in_group : List Condition → List Tree
trees_in_group cs = flat_map (λ j. left_of cs j ∷ right_of cs j ∷ []) (pass_order cs)

-- the trees of a trigger, its groups in text order
abbrev pub trees_in_trigger : TriggerContents → List Tree
trees_in_trigger t = flat_map trees_in_group (groups_of t)

-- the trees of a part of a value: its legacy sum, or those of its group
abbrev pub trees_in_part : PartContents → List Tree
trees_in_part (Legacy terms) = terms_tree terms ∷ []
trees_in_part (Grouped cs) = trees_in_group cs

-- the trees of a value, its parts in text order
abbrev pub trees_in_value : List PartContents → List Tree
trees_in_value parts = flat_map trees_in_part parts
