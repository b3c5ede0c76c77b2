-- What the nodes of a pool spell: each by the earlier ones, and more nodes change nothing.
use Rattle.std.proofs.Common.{arith, ◌≡◌, ap, ap₂, sym, ◌∙◌, refl, ℕ, zero, suc, ◌+◌, ◌<◌, length, take, drop, List, []}
use Rattle.std.proofs.Common.{◌∷◌, ◌++◌, length-append}
use Rattle.std.proofs.lemmas.List.{get_or_append_left, take-append-drop}
use Rattle.std.proofs.Math.Seq.{get_or-append_seam}
use Rattle.ra_indirect.specs.declared.node.Node.{Node}
use Rattle.ra_indirect.specs.declared.node.Node.TheVariants.{Const, Cell as CellNode, View, Arith}
use Rattle.ra_indirect.specs.Trees.{constant, join}
use Rattle.ra_indirect.specs.Pools.{Spelled, IsTree, IsCell, tree_in, view_in, spelled_at, spelled_with, spelled_from}
use Rattle.ra_indirect.specs.Pools.{spelled_by, MayFollow, node_at}
use Rattle.ra_indirect.specs.Interned.{IsPool}

pub spelled_from-append : (earlier : List Spelled) (xs ys : List Node)
    → spelled_from earlier (xs ++ ys) ≡ spelled_from (spelled_from earlier xs) ys
spelled_from-append earlier [] ys = refl
spelled_from-append earlier (x ∷ xs) ys = spelled_from-append (earlier ++ spelled_with earlier x ∷ []) xs ys

-- one node more
pub spelled_by-push : (nodes : List Node) (node : Node) → spelled_by (nodes ++ node ∷ [])
    ≡ spelled_by nodes ++ spelled_with (spelled_by nodes) node ∷ []
spelled_by-push nodes node = spelled_from-append [] nodes (node ∷ [])

pub length-spelled_from : (earlier : List Spelled) (nodes : List Node)
    → length (spelled_from earlier nodes) ≡ length earlier + length nodes
length-spelled_from earlier [] = omega arith
length-spelled_from earlier (node ∷ nodes) =
    omega (
      arith,
      length-spelled_from (earlier ++ spelled_with earlier node ∷ []) nodes,
      length-append earlier (spelled_with earlier node ∷ []),
    )

pub length-spelled_by : (nodes : List Node) → length (spelled_by nodes) ≡ length nodes
length-spelled_by nodes = omega (arith, length-spelled_from [] nodes)

-- what earlier nodes spell stays
pub spelled_from-earlier : (earlier : List Spelled) (nodes : List Node) (i : ℕ) → i < length earlier
    → spelled_at (spelled_from earlier nodes) i ≡ spelled_at earlier i
spelled_from-earlier earlier [] i below = refl
spelled_from-earlier earlier (node ∷ nodes) i below =
    let more = earlier ++ spelled_with earlier node ∷ [] in
    spelled_from-earlier (earlier ++ spelled_with earlier node ∷ []) nodes i
    (omega (arith, length-append earlier (spelled_with earlier node ∷ [])))
    ∙ get_or_append_left earlier (spelled_with earlier node ∷ []) (IsTree (constant 0)) i below

pub spelled_by-append : (nodes more : List Node) (i : ℕ) → i < length nodes
    → spelled_at (spelled_by (nodes ++ more)) i ≡ spelled_at (spelled_by nodes) i
spelled_by-append nodes more i below =
    ap (λ s. spelled_at s i) (spelled_from-append [] nodes more)
    ∙ spelled_from-earlier (spelled_by nodes) more i (omega (arith, length-spelled_by nodes))

-- each node spells by those before it
spelled_from-here : (earlier : List Spelled) (nodes : List Node) (k : ℕ) → k < length nodes
    → spelled_at (spelled_from earlier nodes) (length earlier + k)
    ≡ spelled_with (spelled_from earlier (take k nodes)) (node_at nodes k)
spelled_from-here earlier [] k within = absurd (omega arith)
spelled_from-here earlier (node ∷ nodes) zero within =
    ap (λ i. spelled_at (spelled_from (earlier ++ spelled_with earlier node ∷ []) nodes) i)
    (let same : length earlier + 0 ≡ length earlier = omega arith in same)
    ∙ spelled_from-earlier (earlier ++ spelled_with earlier node ∷ []) nodes (length earlier)
    (omega (arith, length-append earlier (spelled_with earlier node ∷ [])))
    ∙ get_or-append_seam earlier (spelled_with earlier node) [] (IsTree (constant 0))
spelled_from-here earlier (node ∷ nodes) (suc k) within =
    ap (λ i. spelled_at (spelled_from (earlier ++ spelled_with earlier node ∷ []) nodes) i)
    (let same : length earlier + suc k ≡ length (earlier ++ spelled_with earlier node ∷ []) + k =
    omega (arith, length-append earlier (spelled_with earlier node ∷ [])) in same)
    ∙ spelled_from-here (earlier ++ spelled_with earlier node ∷ []) nodes k (omega arith)

pub spelled_by-here : (nodes : List Node) (k : ℕ) → k < length nodes
    → spelled_at (spelled_by nodes) k ≡ spelled_with (spelled_by (take k nodes)) (node_at nodes k)
spelled_by-here nodes k within = ap (λ i. spelled_at (spelled_by nodes) i) (let same : k ≡ 0 + k =
    omega arith in same) ∙ spelled_from-here [] nodes k within

-- two lists that agree on what a node names make one thing of it
pub spelled_with-agree : (s s' : List Spelled) (nodes : List Node) (node : Node)
    → MayFollow nodes node → ((i : ℕ) → i < length nodes → spelled_at s i ≡ spelled_at s' i)
    → spelled_with s node ≡ spelled_with s' node
spelled_with-agree s s' nodes (Const n) may agree = refl
spelled_with-agree s s' nodes (CellNode width pointer offset) may agree =
    ap (λ x. IsCell (record { pointer = tree_in x; address = offset; width = width })) (agree pointer may.0)
spelled_with-agree s s' nodes (View kind size c) may agree =
    ap (λ x. IsTree (view_in kind size x)) (agree c may.0)
spelled_with-agree s s' nodes (Arith op left right) may agree =
    ap₂ (λ x y. IsTree (join op (tree_in x) (tree_in y))) (agree left may.0) (agree right may.2)

-- each node spells by what the pool spells
pub spelled_of : (nodes : List Node) → IsPool nodes → (k : ℕ) → k < length nodes
    → spelled_at (spelled_by nodes) k ≡ spelled_with (spelled_by nodes) (node_at nodes k)
spelled_of nodes pool k within =
    spelled_by-here nodes k within
    ∙ spelled_with-agree (spelled_by (take k nodes)) (spelled_by nodes) (take k nodes)
    (node_at nodes k) (pool.named k within)
    (λ i below. sym (spelled_by-append (take k nodes) (drop k nodes) i below)
    ∙ ap (λ ns. spelled_at (spelled_by ns) i) (take-append-drop k nodes))
