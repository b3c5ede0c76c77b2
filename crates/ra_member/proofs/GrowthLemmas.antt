-- A pool that grows by the trees of a list, one element after the other.
use Rattle.std.proofs.Common.{◌≡◌, ℕ, ◌+◌, ◌<◌, ◌≤◌, List, [], ◌∷◌, ◌++◌, length, map, take, drop, get_or, sum_by, All}
use Rattle.std.proofs.Common.{sym, ◌∙◌, ap, ap₂, subst, arith, add-one}
use Rattle.std.proofs.Math.Seq.{drop-cons}
use Rattle.std.specs.List.{flat_map}
use Rattle.std.proofs.lemmas.List.{take-map, length-map, get_or-map, map_more}
use Rattle.std.proofs.lemmas.List.Sums.{sum_by_push, sum_by_more_le}
use Rattle.ra_indirect.specs.declared.node.Node.{Node}
use Rattle.ra_indirect.specs.Trees.{Tree}
use Rattle.ra_member.specs.Plans.{GrowsWithin}
use Rattle.ra_member.proofs.PlanLemmas.{one_more, within_through, within_as}

module _ {X : Type 0} (trees : X → List Tree) (weight : X → ℕ) where
  pub grows_more : (a b c : List Node) (xs : List X) (x : X)
      → GrowsWithin a b (flat_map trees xs) (sum_by weight xs) → GrowsWithin b c (trees x)
      (weight x) → GrowsWithin a c (flat_map trees (xs ++ x ∷ [])) (sum_by weight (xs ++ x ∷ []))
  grows_more a b c xs x grows more =
      let sum : sum_by weight (xs ++ x ∷ []) ≡ sum_by weight xs + weight x = sum_by_push weight xs x in
      within_as a c (flat_map trees xs ++ trees x) (flat_map trees (xs ++ x ∷ [])) (sum_by weight xs
      + weight x) (sum_by weight (xs ++ x ∷ [])) (sym (one_more trees xs x)) (omega arith)
      (within_through a b c (flat_map trees xs) (trees x) (sum_by weight xs) (weight x)
      (sum_by weight xs + weight x) (omega arith) grows more)

-- an element of a list that is taken from its start
module _ {X Y : Type 0} (contents : Y → X) (ys : List Y) (k : ℕ) (y : Y) (within : k < length ys)
    (is : y ≡ get_or ys k y) where
  there : get_or (map contents ys) k (contents y) ≡ contents y
  there = get_or-map contents ys k y (contents y) within ∙ ap contents (sym is)

  pub taken_next : map contents (take (k + 1) ys) ≡ map contents (take k ys) ++ contents y ∷ []
  taken_next = map_more contents ys k y within ∙ ap (λ z. map contents (take k ys) ++ contents z ∷ []) (sym is)

  pub dropped_next : map contents (drop k ys) ≡ contents y ∷ map contents (drop (k + 1) ys)
  dropped_next =
      ap (map contents) (drop-cons ys k y within)
      ∙ ap₂ (λ x n. contents x ∷ map contents (drop n ys)) (sym is) (sym (add-one k))

  pub holds_at : (P : X → Type 0) → All P (map contents ys) → P (contents y)
  holds_at P all =
      let inside : k < length (map contents ys) = omega (arith, length-map ys contents) in
      subst P there (all k (contents y) inside)

  -- what was taken and the next one are within all of them
  pub weight_at : (weight : X → ℕ) → sum_by weight (map contents (take k ys)) + weight (contents y)
      ≤ sum_by weight (map contents ys)
  weight_at weight =
      let inside : k < length (map contents ys) = omega (arith, length-map ys contents) in
      let most : sum_by weight (take k (map contents ys))
      + weight (get_or (map contents ys) k (contents y)) ≤ sum_by weight (map contents ys) =
      sum_by_more_le weight (map contents ys) k (contents y) inside in
      rw (there, take-map contents k ys) at most
