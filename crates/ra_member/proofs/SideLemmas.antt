-- What the sides of conditions say at a place.
use Rattle.std.proofs.Common.{ℕ, ◌<◌, List, length, slice_index_or, subst, arith}
use Rattle.std.proofs.lemmas.List.{length-map, get_or-map}
use Rattle.ra_indirect.specs.declared.node.Node.{Node}
use Rattle.ra_indirect.specs.Pools.{IsValued, node_at}
use Rattle.ra_member.specs.declared.sides.Sides.{Sides}
use Rattle.ra_member.specs.Laid.{left_nodes, right_nodes}
use Rattle.ra_member.specs.Readings.{AreValued}

module _ (nodes : List Node) (sides : List Sides) (k : ℕ) (d : Sides) (below : k < length sides) where
  -- the left node at a place has a value
  pub left_valued : AreValued nodes (left_nodes sides) → ((slice_index_or sides k d).left < length nodes)
      × IsValued (node_at nodes (slice_index_or sides k d).left)
  left_valued are =
      subst (λ n. (n < length nodes) × IsValued (node_at nodes n)) (get_or-map (λ s. s.left) sides k d 0 below)
      (are k (omega (arith, below, length-map sides (λ s. s.left))))

  -- the right node at a place has a value
  pub right_valued : AreValued nodes (right_nodes sides) → ((slice_index_or sides k d).right < length nodes)
      × IsValued (node_at nodes (slice_index_or sides k d).right)
  right_valued are =
      subst (λ n. (n < length nodes) × IsValued (node_at nodes n)) (get_or-map (λ s. s.right) sides k d 0 below)
      (are k (omega (arith, below, length-map sides (λ s. s.right))))
