use Rattle.std.proofs.Common.{◌≡◌, ◌∷◌, map, take}
use Rattle.std.specs.List.{flat_map}
use Rattle.ra_condition.specs.Chains.{pass_order}
use Rattle.ra_condition.specs.Contents.{group_contents}
use Rattle.ra_group.specs.Along.{pause_count}
use Rattle.ra_explain.proofs.orders.orders_of.Given as goal

-- the core and the alts so far
abbrev pub invariant-loop-alt : goal.invariant-loop-alt
invariant-loop-alt l = record {
  order : l.orders.order.items ≡ flat_map pass_order
      (group_contents l.text.core ∷ map group_contents (take l.alt-index l.text.alts.items));
  pauses : l.orders.pauses.items ≡ map pause_count
      (group_contents l.text.core ∷ map group_contents (take l.alt-index l.text.alts.items));
}
