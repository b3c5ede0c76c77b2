-- Comparisons that grow by one stay distinct.
use Rattle.std.proofs.Common.{◌≡◌, ◌≢◌, ℕ, ◌+◌, ◌<◌, inl, inr, ◌⊎◌, List, [], ◌∷◌, ◌++◌, length, subst, sym, ◌∙◌, ap}
use Rattle.std.proofs.Common.{arith, length-append}
use Rattle.std.specs.List.{Contains}
use Rattle.std.proofs.lemmas.List.{get_or_append_left}
use Rattle.std.proofs.lemmas.List.Elements.{Contains-get_or}
use Rattle.std.proofs.lemmas.Option.{get_or_from_slice_get, slice_get_within}
use Rattle.std.proofs.Math.Seq.{get_or-append_seam}
use Rattle.ra_operand.specs.declared.op.Op.TheVariants.{Bare}
use Rattle.ra_indirect.specs.declared.node.Node.{Node}
use Rattle.ra_indirect.specs.Interned.{Interns}
use Rattle.ra_indirect.proofs.PoolLemmas.{below_or_last}
use Rattle.ra_truths.specs.declared.comparison.Comparison.{Comparison}
use Rattle.ra_truths.specs.Comparisons.{AreDistinct, AreOver, IsOver, comparison_at}

module _ (old : List Comparison) (c : Comparison) (distinct : AreDistinct old) (absent : Contains old c → ⊥) where
  earlier : (k : ℕ) → k < length old → comparison_at (old ++ c ∷ []) k ≡ comparison_at old k
  earlier k below = get_or_append_left old (c ∷ []) (record { op = Bare; left = 0; right = 0 }) k below

  last : comparison_at (old ++ c ∷ []) (length old) ≡ c
  last = get_or-append_seam old c [] (record { op = Bare; left = 0; right = 0 })

  apart : (i k : ℕ) → i < k → (k < length old) ⊎ (k ≡ length old) → comparison_at (old ++ c ∷ []) i
      ≢ comparison_at (old ++ c ∷ []) k
  apart i k less (inl below) same =
      distinct i k less below (sym (earlier i (omega arith)) ∙ same ∙ earlier k below)
  apart i k less (inr end) same =
      absent (subst (Contains old) (sym (earlier i (omega arith)) ∙ same
      ∙ ap (comparison_at (old ++ c ∷ [])) end ∙ last)
      (Contains-get_or old i (record { op = Bare; left = 0; right = 0 }) (omega arith)))

  pub distinct_more : AreDistinct (old ++ c ∷ [])
  distinct_more i k less within =
      apart i k less (below_or_last k (length old) (omega (arith, within, length-append old (c ∷ []))))

-- an interned comparison stands at its number
pub placed : (old new : List Comparison) (c : Comparison) (place : ℕ) → Interns old new c place
    → (place < length new) × (comparison_at new place ≡ c)
placed old new c place (inl found) = (
  omega (arith, slice_get_within old place c found.stands, ap length found.same),
  ap (λ cs. comparison_at cs place) found.same
      ∙ get_or_from_slice_get old place c (record { op = Bare; left = 0; right = 0 }) found.stands,
)
placed old new c place (inr fresh) = (
  omega (arith, fresh.last, ap length fresh.grown, length-append old (c ∷ [])),
  ap (comparison_at new) fresh.last
      ∙ ap (λ cs. comparison_at cs (length old)) fresh.grown
      ∙ get_or-append_seam old c [] (record { op = Bare; left = 0; right = 0 }),
)

-- and those that were there keep their numbers
pub kept_interned : (old new : List Comparison) (c : Comparison) (place : ℕ) → Interns old new c place
    → (k : ℕ) → k < length old → comparison_at new k ≡ comparison_at old k
kept_interned old new c place (inl found) k below = ap (λ cs. comparison_at cs k) found.same
kept_interned old new c place (inr fresh) k below =
    ap (λ cs. comparison_at cs k) fresh.grown
    ∙ get_or_append_left old (c ∷ []) (record { op = Bare; left = 0; right = 0 }) k below

-- comparisons over a pool stay so once one more over it is interned
pub over_interned : (nodes : List Node) (old new : List Comparison) (c : Comparison) (place : ℕ) → AreOver nodes old
    → IsOver nodes c → Interns old new c place → AreOver nodes new
over_interned nodes old new c place over here (inl found) = subst (AreOver nodes) (sym found.same) over
over_interned nodes old new c place over here (inr fresh) = λ k below.
    let last : length new ≡ length old + 1 = omega (arith, ap length fresh.grown, length-append old (c ∷ [])) in
    elim (below_or_last k (length old) (omega (arith, below, last))) [
      | inl before ↦
          subst (IsOver nodes) (sym (kept_interned old new c place (inr fresh) k before)) (over k before)
      | inr end ↦
          subst (IsOver nodes)
          (sym (ap (comparison_at new) (end ∙ sym fresh.last) ∙ (placed old new c place (inr fresh)).1)) here
    ]
