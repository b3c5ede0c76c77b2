-- Comparisons that are found again, and one more that goes last.
use Rattle.std.proofs.Common.{◌≡◌, ◌≢◌, ◌-◌, ◌⊎◌, inl, inr, ℕ, suc, ◌+◌, ◌<◌, Option, None, Some, List, [], ◌∷◌, ◌++◌}
use Rattle.std.proofs.Common.{length, get_or, set, sym, ap, ◌∙◌, arith, rules, slice_get, IfSome, IfNone}
use Rattle.std.proofs.Common.{length-append, length-set, get_or-set_same, get_or-set_other}
use Rattle.std.specs.List.{Contains}
use Rattle.std.specs.Option.{unwrap_or}
use Rattle.std.proofs.lemmas.List.{get_or_append_left, get_or_default}
use Rattle.std.proofs.lemmas.Option.{slice_get-get_or}
use Rattle.std.proofs.Math.Seq.{get_or-append_seam}
use Rattle.std.proofs.lemmas.Bool.{cases_eq}
use Rattle.ra_operand.specs.declared.op.Op.TheVariants.{Bare}
use Rattle.ra_indirect.proofs.PoolLemmas.{below_or_last}
use Rattle.ra_truths.specs.declared.comparison.Comparison.{Comparison}
use Rattle.ra_truths.specs.Comparisons.{comparison_at}
use Rattle.ra_truths.specs.Found.{AreFound}

module _ (list : List Comparison) (firsts : List ℕ) (f : Comparison → Option ℕ) (found : AreFound list firsts f)
    (c : Comparison) where
  abbrev more : List Comparison
  more = list ++ c ∷ []

  long : length more ≡ length list + 1
  long = length-append list (c ∷ [])

  -- a comparison that was there, or the last
  which : (k : ℕ) → k < length more
      → ((k < length list) × (comparison_at more k ≡ comparison_at list k))
      ⊎ ((k ≡ length list) × (comparison_at more k ≡ c))
  which k below = elim (below_or_last k (length list) (omega (arith, below, long))) [
    | inl before ↦ inl (before, get_or_append_left list (c ∷ []) (record { op = Bare; left = 0; right = 0 }) k before)
    | inr last ↦ inr (
      last,
      ap (comparison_at more) last
          ∙ get_or-append_seam list c [] (record { op = Bare; left = 0; right = 0 }),
    )
  ]

  kept : (q : Comparison) (k : ℕ) → (k < length list) × (comparison_at list k ≡ q)
      → (k < length more) × (comparison_at more k ≡ q)
  kept q k there = (
    omega (arith, there.0, long),
    get_or_append_left list (c ∷ []) (record { op = Bare; left = 0; right = 0 }) k there.0 ∙ there.1,
  )

  -- the first comparison of its left node
  module _ (within : c.left < length firsts) (none : get_or firsts c.left 0 ≡ 0) where
    abbrev firsts_next : List ℕ
    firsts_next = set firsts c.left (length list + 1)

    here : get_or firsts_next c.left 0 ≡ length list + 1
    here = get_or-set_same firsts c.left (length list + 1) 0 within

    apart : (left : ℕ) → left ≢ c.left → get_or firsts_next left 0 ≡ get_or firsts left 0
    apart left other = get_or-set_other firsts c.left left (length list + 1) 0 other

    pub found_first : AreFound more firsts_next f
    found_first = record {
      none = λ left k inside is below same.
          let other : left ≢ c.left = λ e. absurd (omega (arith, ap (λ n. get_or firsts_next n 0) e, here, is)) in
          elim (which k below) [
            | inl w ↦ found.none left k (omega (arith, inside, length-set firsts c.left (length list + 1)))
                (sym (apart left other) ∙ is) w.0 (ap (λ d. d.left) (sym w.1) ∙ same)
            | inr w ↦ other (sym same ∙ ap (λ d. d.left) w.1)
          ];
      first = λ left k is. elim (cases_eq left c.left) [
        | inl e ↦ (let e' = ap (λ n. get_or firsts_next n 0) e in omega (arith, e', here, is, long))
        | inr other ↦ omega (arith, found.first left k (sym (apart left other) ∙ is), long)
      ];
      each = λ k below. elim (which k below) [
        | inl w ↦ elim (found.each k w.0) [
          | inl at ↦ inl (ap (λ d. get_or firsts_next d.left 0) w.1
              ∙ apart (comparison_at list k).left (found.none c.left k within none w.0) ∙ at)
          | inr at ↦ inr (ap f w.1 ∙ at)
        ]
        | inr w ↦ inl (ap (λ d. get_or firsts_next d.left 0) w.1 ∙ here ∙ omega (arith, w.0))
      ];
      others = λ q k is. kept q k (found.others q k is);
    }

  -- another one
  module _ (f' : Comparison → Option ℕ) (not_none : c.left < length firsts → get_or firsts c.left 0 ≢ 0)
      (is : f' c ≡ Some (length list)) (absent : (k : ℕ) → k < length list → comparison_at list k ≢ c)
      (either : (q : Comparison) → (q ≡ c) ⊎ (f' q ≡ f q)) where
    pub found_other : AreFound more firsts f'
    found_other = record {
      none = λ left k inside is below same. elim (which k below) [
        | inl w ↦ found.none left k inside is w.0 (ap (λ d. d.left) (sym w.1) ∙ same)
        | inr w ↦
            let e : c.left ≡ left = sym (ap (λ d. d.left) w.1) ∙ same in
            not_none (omega (arith, e, inside)) (ap (λ n. get_or firsts n 0) e ∙ is)
      ];
      first = λ left k is. omega (arith, found.first left k is, long);
      each = λ k below. elim (which k below) [
        | inl w ↦ elim (found.each k w.0) [
          | inl at ↦ inl (ap (λ d. get_or firsts d.left 0) w.1 ∙ at)
          | inr at ↦ elim (either (comparison_at list k)) [
            | inl same ↦ absurd (absent k w.0 same)
            | inr stays ↦ inr (ap f' w.1 ∙ stays ∙ at)
          ]
        ]
        | inr w ↦ inr (ap f' w.1 ∙ is ∙ ap (λ n. Some n) (sym w.0))
      ];
      others = λ q k at. elim (either q) [
        | inl e ↦ (
            let n : length list ≡ k = ap (λ o. unwrap_or o 0) (sym is ∙ ap f' (sym e) ∙ at) in (
              omega (arith, n, long),
              ap (comparison_at more) (sym n)
                  ∙ get_or-append_seam list c [] (record { op = Bare; left = 0; right = 0 }) ∙ sym e,
            ))
        | inr stays ↦ kept q k (found.others q k (sym stays ∙ at))
      ];
    }

-- the first comparison of a left node
pub first_at : (list : List Comparison) (firsts : List ℕ) (f : Comparison → Option ℕ) → AreFound list firsts f
    → (left first : ℕ) → first ≡ get_or firsts left first → left < length firsts → first ≢ 0
    → (get_or firsts left 0 ≡ suc (first - 1)) × (first - 1 < length list)
first_at list firsts f found left first is within some =
    let at : get_or firsts left 0 ≡ first = sym (is ∙ get_or_default firsts left first 0 within) in
    let next : get_or firsts left 0 ≡ suc (first - 1) = omega (arith, at, some) in
    (next, found.first left (first - 1) next)

-- who is found among the others stands at its number
pub found_there : (list : List Comparison) (firsts : List ℕ) (f : Comparison → Option ℕ) → AreFound list firsts f
    → (c : Comparison) (o : Option ℕ) → o ≡ f c → IfSome o (λ n. slice_get list n ≡ Some c)
found_there list firsts f found c None is = tt
found_there list firsts f found c (Some n) is =
    let there = found.others c n (sym is) in
    slice_get-get_or list n (record { op = Bare; left = 0; right = 0 }) there.0 ∙ ap (λ d. Some d) there.1

-- who is neither the first one of its left node nor found among the others is not there
pub not_there : (list : List Comparison) (firsts : List ℕ) (f : Comparison → Option ℕ) → AreFound list firsts f
    → (c : Comparison) → ((k : ℕ) → k < length list → get_or firsts c.left 0 ≡ suc k → comparison_at list k ≡ c → ⊥)
    → (o : Option ℕ) → o ≡ f c → IfNone o (Contains list c → ⊥)
not_there list firsts f found c first (Some n) is = tt
not_there list firsts f found c first None is = λ contains.
    let k = contains.0 in
    let same : comparison_at list k ≡ c =
    get_or_default list k (record { op = Bare; left = 0; right = 0 }) c contains.1 ∙ contains.2 in
    elim (found.each k contains.1) [
      | inl at ↦ first k contains.1 (sym (ap (λ d. get_or firsts d.left 0) same) ∙ at) same
      | inr at ↦ absurd (none_some (is ∙ ap f (sym same) ∙ at))
    ] where
      none_some : {n : ℕ} → None ≡ Some n → ⊥
      none_some e = search (rules, e)
