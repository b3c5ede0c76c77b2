-- Plans of triggers and values: pass orders, and nodes that spell the trees of conditions: docs/DEFINITIONS.md, "Trees
-- of a group".
use Rattle.std.specs.Prelude.{◌≡◌, ℕ, ◌+◌, ◌*◌, ◌≤◌, Option, None, Some, List, [], ◌∷◌, length, map, filter}
use Rattle.std.specs.List.{flat_map}
use Rattle.ra_condition.specs.declared.condition.Condition.{Condition}
use Rattle.ra_condition.specs.Contents.{PartContents, Legacy, Grouped, counted_in}
use Rattle.ra_condition.specs.Chains.{pass_order}
use Rattle.ra_indirect.specs.declared.node.Node.{Node}
use Rattle.ra_indirect.specs.Trees.{Tree}
use Rattle.ra_indirect.specs.Pools.{Spells, cells_of}
use Rattle.ra_indirect.specs.Growing.{GrowsBy, is_view}
use Rattle.ra_chain.specs.Elaboration.{lefts_of, rights_of, terms_tree}
use Rattle.ra_group.specs.Along.{pause_count}
use Rattle.ra_member.specs.declared.planning.ValuePlan.{ValuePlan}
use Rattle.ra_member.specs.Laid.{PlanSeen, plan_rows}

-- each node spells the tree at its place
abbrev pub AreSpelled : List Node → List ℕ → List Tree → Type 0
AreSpelled nodes [] [] = Unit {0}
AreSpelled nodes (n ∷ ns) (tree ∷ trees) = Spells nodes n tree × AreSpelled nodes ns trees
AreSpelled nodes _ _ = ⊥

-- the plan of some groups, one after the other
pub record IsPlan (nodes : List Node) (groups : List (List Condition)) (plan : PlanSeen) : Type 0 where
  pub order : plan.order ≡ flat_map pass_order groups
  pub pauses : plan.pauses ≡ map pause_count groups
  pub lefts : AreSpelled nodes plan.lefts (flat_map lefts_of groups)
  pub rights : AreSpelled nodes plan.rights (flat_map rights_of groups)

-- the nodes of the legacy sums; a condition part has none
abbrev pub AreSums : List Node → List PartContents → List (Option ℕ) → Type 0
AreSums nodes [] [] = Unit {0}
AreSums nodes (Legacy terms ∷ parts) (Some n ∷ sums) = Spells nodes n (terms_tree terms) × AreSums nodes parts sums
AreSums nodes (Grouped cs ∷ parts) (None ∷ sums) = AreSums nodes parts sums
AreSums nodes _ _ = ⊥

-- the plan of a value
pub record IsValuePlan (nodes : List Node) (parts : List PartContents) (plan : ValuePlan) : Type 0 where
  pub groups : IsPlan nodes (map counted_in parts) (plan_rows plan.groups)
  pub sums : AreSums nodes parts plan.sums.items

-- the pool grows by the trees of this many conditions: by thirteen nodes, two cells and two views for each of them at
-- most
pub record GrowsWithin (old new : List Node) (trees : List Tree) (conditions : ℕ) : Type 0 where
  pub grows : GrowsBy old new trees
  pub few : length new ≤ length old + 13 * conditions
  pub few_cells : length (cells_of new) ≤ length (cells_of old) + 2 * conditions
  pub few_views : length (filter is_view new) ≤ length (filter is_view old) + 2 * conditions
