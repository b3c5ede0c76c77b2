-- A pool has no more tracked masks than views.
use Rattle.std.proofs.Common.{◌≡◌, ◌+◌, ◌≤◌, Bool, not, filter, List, [], ◌∷◌, ◌++◌, length, ap, ◌∙◌, arith}
use Rattle.std.proofs.Common.{length-append}
use Rattle.std.specs.List.{flat_map}
use Rattle.std.proofs.lemmas.List.Sums.{length-filter, count_by-le-length}
use Rattle.ra_operand.specs.declared.kind.Kind.{Kind}
use Rattle.ra_operand.specs.declared.kind.Kind.TheVariants.{Mem, Delta, Prior, Bcd, Inverted}
use Rattle.ra_operand.specs.declared.size.Size.{Size}
use Rattle.ra_indirect.specs.declared.node.Node.{Node}
use Rattle.ra_indirect.specs.declared.node.Node.TheVariants.{Const, Cell as CellNode, View, Arith}
use Rattle.ra_indirect.specs.Trees.{Cell, cell_of, tracked_by, firsts, same_tracked}
use Rattle.ra_indirect.specs.Pools.{Spelled, IsTree, IsCell, tracked_at, view_in, spelled_at, spelled_with}
use Rattle.ra_indirect.specs.Pools.{spelled_from, spelled_by, tracked_of}
use Rattle.ra_indirect.specs.Growing.{is_view}
use Rattle.ra_chain.specs.Planting.{views_at}
use Rattle.ra_member.proofs.PlanLemmas.{one_more}

-- each once is no more than all
fewer : {A : Type 0} (same : A → A → Bool) (xs : List A) → length (firsts same xs) ≤ length xs
fewer same [] = omega arith
fewer {A = A} same (x ∷ xs) =
    let others : A → Bool = λ y. not (same x y) in
    omega (arith, length-filter others (firsts same xs), count_by-le-length others (firsts same xs), fewer same xs)

-- a view looks at most at one tracked mask, and other nodes at none
by_kind : (kind : Kind) (size : Size) (c : Cell) → length (tracked_by kind size c) ≤ 1
by_kind Mem size c = omega arith
by_kind Delta size c = omega arith
by_kind Prior size c = omega arith
by_kind Bcd size c = omega arith
by_kind Inverted size c = omega arith

view_mask : (kind : Kind) (size : Size) (s : Spelled) → length (tracked_at (IsTree (view_in kind size s))) ≤ 1
view_mask kind size (IsCell c) = by_kind kind size (cell_of size c.pointer c.address)
view_mask kind size (IsTree tree) = omega arith

node_mask : (earlier : List Spelled) (node : Node) → length (tracked_at (spelled_with earlier node)) ≤ views_at node
node_mask earlier (Const n) = omega arith
node_mask earlier (CellNode width pointer offset) = omega arith
node_mask earlier (View kind size c) = view_mask kind size (spelled_at earlier c)
node_mask earlier (Arith op left right) = omega arith

views_more : (node : Node) (nodes : List Node) → length (filter is_view (node ∷ nodes))
    ≡ views_at node + length (filter is_view nodes)
views_more (Const n) nodes = omega arith
views_more (CellNode width pointer offset) nodes = omega arith
views_more (View kind size c) nodes = omega arith
views_more (Arith op left right) nodes = omega arith

masks_from : (nodes : List Node) (earlier : List Spelled) → length
    (flat_map tracked_at (spelled_from earlier nodes)) ≤ length (flat_map tracked_at earlier)
    + length (filter is_view nodes)
masks_from [] earlier = omega arith
masks_from (node ∷ nodes) earlier =
    let s : Spelled = spelled_with earlier node in
    let here : length (flat_map tracked_at (earlier ++ s ∷ []))
    ≡ length (flat_map tracked_at earlier) + length (tracked_at s) = ap length
    (one_more tracked_at earlier s) ∙ length-append (flat_map tracked_at earlier) (tracked_at s) in
    omega (arith, masks_from nodes (earlier ++ s ∷ []), here, node_mask earlier node, views_more node nodes)

pub masks_few : (nodes : List Node) → length (tracked_of nodes) ≤ length (filter is_view nodes)
masks_few nodes =
    let all : length (flat_map tracked_at (spelled_by nodes)) ≤ 0 + length (filter is_view nodes) =
    masks_from nodes [] in
    omega (arith, fewer same_tracked (flat_map tracked_at (spelled_by nodes)), all)
