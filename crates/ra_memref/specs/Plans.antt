-- What a frame of the nodes goes by: docs/INTERNALS.md, "Due nodes".
use Rattle.std.specs.Prelude.{◌≡◌, ℕ, ◌<◌, ◌^◌, Bool, true, false, List, length, slice_index, slice_index_or}
use Rattle.ra_indirect.specs.Interned.{IsPool}
use Rattle.ra_indirect.specs.Pools.{node_at}
use Rattle.ra_memref.specs.declared.node_plan.NodePlan.{NodePlan}
use Rattle.ra_memref.specs.Due.{AreDependents, IsQuiet, IsUnmarked, earlier_by, kept_by}
use Rattle.ra_memref.specs.Layout.{IsLaid}
use Rattle.ra_memref.specs.Numbers.{NumbersSeen}

-- the nodes are those of a pool, each has its slot, and there is a list of those that name it
pub record IsNodePlan (p : NodePlan) : Type 0 where
  pub pool : IsPool p.nodes.now
  pub laid : IsLaid p.nodes.now p.slots.now
  pub few : length p.nodes.now < 2 ^ 30
  pub dependents : AreDependents p.nodes.now p.dependents.now

-- a node that is not due, and whose kept number is the one of the frame before, would take the number that it has
abbrev pub AreSettled : NodePlan → (due : List Bool) → NumbersSeen → Type 0
AreSettled p due numbers = (n : ℕ) → n < length p.nodes.now → slice_index_or due n true ≡ false
    → earlier_by (node_at p.nodes.now n) numbers p.slots.now n ≡ kept_by (node_at p.nodes.now n) numbers p.slots.now n
    → IsQuiet (node_at p.nodes.now n) numbers p.slots.now n
    × IsUnmarked (node_at p.nodes.now n) numbers (slice_index p.slots.now n)
