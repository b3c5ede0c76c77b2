use Rattle.std.proofs.Common.{◌*◌, take}
use Rattle.ra_condition.specs.Chains.{pass_order}
use Rattle.ra_indirect.specs.Trees.{constant}
use Rattle.ra_indirect.specs.Pools.{Spells}
use Rattle.ra_indirect.specs.Growing.{GrowsBy}
use Rattle.ra_chain.specs.Elaborates.{trees_along}
use Rattle.ra_chain.specs.Planting.{IsKept}
use Rattle.ra_counts.proofs.plain.plant_in_order.Given as goal

-- the conditions that passed have their cells and tracked masks
abbrev pub invariant-loop-place : goal.invariant-loop-place
invariant-loop-place l = record {
  grows : GrowsBy l.initial.pool l.pool (trees_along l.conditions (take l.place-index (pass_order l.conditions)));
  kept : IsKept l.initial.pool l.pool (4 * l.place-index) (2 * l.place-index) (2 * l.place-index);
  nought : Spells l.pool l.zero (constant 0);
}
