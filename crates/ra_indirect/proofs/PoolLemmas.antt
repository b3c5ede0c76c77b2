-- A pool that grows by a node stays a pool.
use Rattle.std.proofs.Common.{◌≡◌, ◌≢◌, ◌∙◌, ℕ, ◌+◌, ◌<◌, ◌≤◌, List, [], ◌∷◌, ◌++◌, inl, inr, ◌⊎◌, Some}
use Rattle.std.proofs.Common.{arith, ap, sym, subst, length, take, slice_get, replicate, length-append}
use Rattle.std.proofs.lemmas.Bool.{cases_lt}
use Rattle.std.proofs.lemmas.Option.{get_or_from_slice_get, slice_get-get_or, slice_get_within}
use Rattle.std.proofs.lemmas.List.{get_or_append_left, get_or-replicate, length-replicate, take-append-le}
use Rattle.std.proofs.Math.ListN.{get_or-eq_default}
use Rattle.std.proofs.lemmas.List.Elements.{Contains-get_or}
use Rattle.std.proofs.Math.Seq.{get_or-append_seam, take-append_seam}
use Rattle.std.specs.List.{Contains}
use Rattle.ra_indirect.specs.declared.node.Node.{Node}
use Rattle.ra_indirect.specs.declared.node.Node.TheVariants.{Const, Cell as CellNode, View, Arith}
use Rattle.ra_indirect.specs.Pools.{MayFollow, node_at, IsValued, IsCellOf}
use Rattle.ra_indirect.specs.Interned.{IsPool, Interns, HaveConstants}

-- a number below one more is below, or it is the last
pub below_or_last : (k n : ℕ) → k < n + 1 → (k < n) ⊎ (k ≡ n)
below_or_last k n within = elim (cases_lt k n) [ inl below ↦ inl below | inr above ↦ inr (omega arith) ]

-- the nodes of numbers below the length are the same in both lists
abbrev pub SameBelow : ℕ → List Node → List Node → Type 0
SameBelow n nodes nodes' = (k : ℕ) → k < n → node_at nodes' k ≡ node_at nodes k

-- what a node may name, it may name after more nodes
pub MayFollow-more : (nodes nodes' : List Node) (node : Node) → length nodes ≤ length nodes'
    → SameBelow (length nodes) nodes nodes' → MayFollow nodes node → MayFollow nodes' node
MayFollow-more nodes nodes' (Const n) longer same may = tt
MayFollow-more nodes nodes' (CellNode width pointer offset) longer same may =
    (omega (arith, may.0), subst IsValued (sym (same pointer may.0)) may.1, may.2)
MayFollow-more nodes nodes' (View kind size c) longer same may =
    (omega (arith, may.0), subst (IsCellOf _) (sym (same c may.0)) may.1)
MayFollow-more nodes nodes' (Arith op left right) longer same may = (
  omega (arith, may.0),
  subst IsValued (sym (same left may.0)) may.1,
  omega (arith, may.2),
  subst IsValued (sym (same right may.2)) may.3,
  may.4,
)

pub node_at-append : (nodes more : List Node) (k : ℕ) → k < length nodes → node_at (nodes ++ more) k ≡ node_at nodes k
node_at-append nodes more k below = get_or_append_left nodes more (Const 0) k below

module _ (nodes : List Node) (node : Node) (pool : IsPool nodes) (may : MayFollow nodes node)
    (absent : Contains nodes node → ⊥) where
  named_by : (k : ℕ) → (k < length nodes) ⊎ (k ≡ length nodes)
      → MayFollow (take k (nodes ++ node ∷ [])) (node_at (nodes ++ node ∷ []) k)
  named_by k (inl below) =
      subst (λ ns. MayFollow ns (node_at (nodes ++ node ∷ []) k))
      (sym (take-append-le k nodes (node ∷ []) (omega arith)))
      (subst (MayFollow (take k nodes)) (sym (node_at-append nodes (node ∷ []) k below)) (pool.named k below))
  named_by k (inr last) =
      subst (λ n. MayFollow (take n (nodes ++ node ∷ [])) (node_at (nodes ++ node ∷ []) n)) (sym last)
      (subst (λ ns. MayFollow ns (node_at (nodes ++ node ∷ []) (length nodes)))
      (sym (take-append_seam nodes (node ∷ [])))
      (subst (MayFollow nodes) (sym (get_or-append_seam nodes node [] (Const 0))) may))

  once_by : (i k : ℕ) → i < k → (k < length nodes) ⊎ (k ≡ length nodes)
      → node_at (nodes ++ node ∷ []) i ≢ node_at (nodes ++ node ∷ []) k
  once_by i k less (inl below) same =
      pool.once i k less below
      (sym (node_at-append nodes (node ∷ []) i (omega arith)) ∙ same ∙ node_at-append nodes (node ∷ []) k below)
  once_by i k less (inr last) same =
      absent
      (subst (Contains nodes)
      (sym (node_at-append nodes (node ∷ []) i (omega arith)) ∙ same ∙ ap (node_at (nodes ++ node ∷ [])) last
      ∙ get_or-append_seam nodes node [] (Const 0))
      (Contains-get_or nodes i (Const 0) (omega arith)))

  pub IsPool-push : IsPool (nodes ++ node ∷ [])
  IsPool-push = record {
    named = λ k within.
        named_by k (below_or_last k (length nodes) (omega (arith, within, length-append nodes (node ∷ []))));
    once = λ i k less within.
        once_by i k less (below_or_last k (length nodes) (omega (arith, within, length-append nodes (node ∷ []))));
  }

pub IsPool-interned : (old new : List Node) (node : Node) (place : ℕ) → IsPool old → MayFollow old node
    → Interns old new node place → IsPool new
IsPool-interned old new node place pool may (inl found) = subst IsPool (sym found.same) pool
IsPool-interned old new node place pool may (inr fresh) =
    subst IsPool (sym fresh.grown) (IsPool-push old node pool may fresh.absent)

pub length-interned : {A : Type 0} (old new : List A) (item : A) (place : ℕ) → Interns old new item place
    → length new ≤ length old + 1
length-interned old new item place (inl found) = omega (arith, ap length found.same)
length-interned old new item place (inr fresh) =
    omega (arith, ap length fresh.grown, length-append old (item ∷ []))

-- what stood at a number stands there
pub stands-interned : (nodes nodes' : List Node) (node other : Node) (place number : ℕ)
    → Interns nodes nodes' node place → slice_get nodes number ≡ Some other → slice_get nodes' number ≡ Some other
stands-interned nodes nodes' node other place number (inl found) stands =
    subst (λ ns. slice_get ns number ≡ Some other) (sym found.same) stands
stands-interned nodes nodes' node other place number (inr added) stands =
    let within : number < length nodes = slice_get_within nodes number other stands in
    ap (λ ns. slice_get ns number) added.grown
    ∙ slice_get-get_or (nodes ++ node ∷ []) number (Const 0) (omega (arith, within, length-append nodes (node ∷ [])))
    ∙ ap Some (node_at-append nodes (node ∷ []) number within
    ∙ get_or_from_slice_get nodes number other (Const 0) stands)

-- the constants that stand in the pool stand in it still
pub HaveConstants-interned : (nodes nodes' : List Node) (node : Node) (place : ℕ) (places : List ℕ)
    → Interns nodes nodes' node place → HaveConstants nodes places → HaveConstants nodes' places
HaveConstants-interned nodes nodes' node place places interns have = λ n k at.
    stands-interned nodes nodes' node (Const n) place k interns (have n k at)

pub IsPool-none : IsPool []
IsPool-none = record { named = λ k within. absurd (omega arith); once = λ i k less within. absurd (omega arith) }

-- no constant has a place in a row of zeros
pub HaveConstants-none : (nodes : List Node) (count : ℕ) → HaveConstants nodes (replicate count 0)
HaveConstants-none nodes count = λ n k at. elim (cases_lt n count) [
  | inl below ↦ absurd (omega (arith, at, get_or-replicate {A = ℕ} count n 0 0 below))
  | inr past ↦
      let long = length-replicate {A = ℕ} count 0 in
      absurd (omega (arith, at, get_or-eq_default {A = ℕ} (replicate count 0) 0 {n = n} (omega (arith, long))))
]
