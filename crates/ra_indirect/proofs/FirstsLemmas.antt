-- Each of a list once, when the list grows at its end.
use Rattle.std.proofs.Common.{◌≡◌, ℕ, zero, suc, ◌<◌, ◌||◌, Bool, true, false, not, cond, filter, length, List, [], ◌∷◌}
use Rattle.std.proofs.Common.{◌++◌, refl, ap, subst, sym, ◌∙◌, ◌⊎◌, inl, inr, arith, get_or, slice_get, Some}
use Rattle.std.proofs.Common.{append_assoc, length-append, ◌≤◌}
use Rattle.std.specs.List.{list_any, Contains}
use Rattle.std.proofs.lemmas.List.{append-nil, get_or_append_left}
use Rattle.std.proofs.lemmas.List.Elements.{filter-append}
use Rattle.std.proofs.lemmas.Map.Views.{Contains-from_any}
use Rattle.std.proofs.lemmas.Bool.{false≢true, or_left, or_right, false_from_ne_true}
use Rattle.ra_indirect.specs.Trees.{firsts}
use Rattle.ra_indirect.specs.Interned.{Interns}

module _ {A : Type 0} (same : A → A → Bool) where
  -- an element of the list is the same as this one
  abbrev pub has_same : List A → A → Bool
  has_same xs y = list_any (λ x. same x y) xs

  push_step : (x y : A) (rest : List A) (a b : Bool) → same x y ≡ a
      → x ∷ filter (λ z. not (same x z)) (cond b rest (rest ++ y ∷ [])) ≡ cond (a || b)
      (x ∷ filter (λ z. not (same x z)) rest) (x ∷ (filter (λ z. not (same x z)) rest ++ y ∷ []))
  push_step x y rest true true is = refl
  push_step x y rest false true is = refl
  push_step x y rest true false is =
      ap (λ ys. x ∷ ys) (filter-append (λ z. not (same x z)) rest (y ∷ [])
      ∙ ap (λ b. filter (λ z. not (same x z)) rest ++ cond (not b) (y ∷ []) []) is
      ∙ append-nil (filter (λ z. not (same x z)) rest))
  push_step x y rest false false is =
      ap (λ ys. x ∷ ys) (filter-append (λ z. not (same x z)) rest (y ∷ [])
      ∙ ap (λ b. filter (λ z. not (same x z)) rest ++ cond (not b) (y ∷ []) []) is)

  -- a further element stays away where one is the same already, else it goes last
  pub firsts-push : (xs : List A) (y : A) → firsts same (xs ++ y ∷ [])
      ≡ cond (has_same xs y) (firsts same xs) (firsts same xs ++ y ∷ [])
  firsts-push [] y = refl
  firsts-push (x ∷ xs) y =
      ap (λ ys. x ∷ filter (λ z. not (same x z)) ys) (firsts-push xs y)
      ∙ push_step x y (firsts same xs) (same x y) (has_same xs y) refl

  module _ (along : (x z y : A) → same x z ≡ true → same z y ≡ true → same x y ≡ true) where
    drop_same : (x y z : A) (rest : List A) (a b c : Bool) → same x y ≡ a → same x z ≡ b → same z y
        ≡ c → (a || list_any (λ w. same w y) (filter (λ w. not (same x w)) rest))
        ≡ (a || list_any (λ w. same w y) rest) → (a
        || list_any (λ w. same w y) (cond (not b) (z ∷ filter (λ w. not (same x w)) rest)
        (filter (λ w. not (same x w)) rest))) ≡ (a || (c || list_any (λ w. same w y) rest))
    drop_same x y z rest true b c xy xz zy before = refl
    drop_same x y z rest false true true xy xz zy before = absurd (false≢true (sym xy ∙ along x z y xz zy))
    drop_same x y z rest false true false xy xz zy before = before
    drop_same x y z rest false false true xy xz zy before =
        ap (λ b. b || list_any (λ w. same w y) (filter (λ w. not (same x w)) rest)) zy
    drop_same x y z rest false false false xy xz zy before =
        ap (λ b. b || list_any (λ w. same w y) (filter (λ w. not (same x w)) rest)) zy ∙ before

    -- what is the same as x is missed by none that x is the same as
    any_without : (x y : A) (zs : List A)
        → (same x y || has_same (filter (λ z. not (same x z)) zs) y) ≡ (same x y || has_same zs y)
    any_without x y [] = refl
    any_without x y (z ∷ zs) =
        drop_same x y z zs (same x y) (same x z) (same z y) refl refl refl (any_without x y zs)

    -- the list has the same as this element exactly where its firsts have
    pub has_same-firsts : (xs : List A) (y : A) → has_same (firsts same xs) y ≡ has_same xs y
    has_same-firsts [] y = refl
    has_same-firsts (x ∷ xs) y = any_without x y (firsts same xs) ∙ ap (λ b. same x y || b) (has_same-firsts xs y)

  keeps_by : (old new : List A) (y : A) (b : Bool) → new ≡ cond b old (old ++ y ∷ []) → (length old
      ≤ length new) × ((i : ℕ) (d : A) → i < length old → get_or new i d ≡ get_or old i d)
  keeps_by old new y true is = (omega (arith, ap length is), λ i d below. ap (λ xs. get_or xs i d) is)
  keeps_by old new y false is = (
    omega (arith, ap length is, length-append old (y ∷ [])),
    λ i d below. ap (λ xs. get_or xs i d) is ∙ get_or_append_left old (y ∷ []) d i below,
  )

  -- the firsts of a list stay at their places when the list goes on
  pub firsts-append : (xs ys : List A) → (length (firsts same xs) ≤ length (firsts same (xs ++ ys)))
      × ((i : ℕ) (d : A) → i < length (firsts same xs) → get_or (firsts same (xs ++ ys)) i d
      ≡ get_or (firsts same xs) i d)
  firsts-append xs [] = (
    omega (arith, ap (λ zs. length (firsts same zs)) (append-nil xs)),
    λ i d below. ap (λ zs. get_or (firsts same zs) i d) (append-nil xs),
  )
  firsts-append xs (y ∷ ys) =
      let one = keeps_by (firsts same xs) (firsts same (xs ++ y ∷ [])) y (has_same xs y) (firsts-push xs y) in
      let rest = firsts-append (xs ++ y ∷ []) ys in
      let same_list : (xs ++ y ∷ []) ++ ys ≡ xs ++ y ∷ ys = append_assoc xs (y ∷ []) ys in (
        omega (arith, one.0, rest.0, ap (λ zs. length (firsts same zs)) same_list),
        λ i d below. sym (ap (λ zs. get_or (firsts same zs) i d) same_list)
            ∙ rest.1 i d (omega (arith, one.0)) ∙ one.1 i d below,
      )

  -- an element that passes a test is found by it
  pub any_get : (test : A → Bool) (y : A) → test y ≡ true → (xs : List A) (i : ℕ) → slice_get xs i
      ≡ Some y → list_any test xs ≡ true
  any_get test y passes [] i here = cc
  any_get test y passes (x ∷ xs) zero here =
      let same_one : x ≡ y = cc in
      or_left (test x) (list_any test xs) (ap test same_one ∙ passes)
  any_get test y passes (x ∷ xs) (suc i) here = or_right (test x) (list_any test xs) (any_get test y passes xs i here)

  module _ (equal : (x y : A) → same x y ≡ true → x ≡ y) (itself : (x : A) → same x x ≡ true) where
    pub along : (x z y : A) → same x z ≡ true → same z y ≡ true → same x y ≡ true
    along x z y xz zy = subst (λ w. same x w ≡ true) (equal z y zy) xz

    -- one that stands among the firsts adds nothing, and a new one goes last
    pub found_more : (xs : List A) (y : A) (place : ℕ) → slice_get (firsts same xs) place ≡ Some y
        → firsts same (xs ++ y ∷ []) ≡ firsts same xs
    found_more xs y place here =
        firsts-push xs y
        ∙ ap (λ b. cond b (firsts same xs) (firsts same xs ++ y ∷ [])) (sym (has_same-firsts along
        xs y) ∙ any_get (λ x. same x y) y (itself y) (firsts same xs) place here)

    pub fresh_more : (xs : List A) (y : A) → (Contains (firsts same xs) y → ⊥)
        → firsts same (xs ++ y ∷ []) ≡ firsts same xs ++ y ∷ []
    fresh_more xs y absent =
        firsts-push xs y
        ∙ ap (λ b. cond b (firsts same xs) (firsts same xs ++ y ∷ [])) (sym (has_same-firsts along
        xs y) ∙ false_from_ne_true (has_same (firsts same xs) y) (λ any. absent (Contains-from_any
        {eq = λ a b. same b a} (λ a b is. sym (equal b a is)) y (firsts same xs) any)))

    -- where an element stands among the firsts, or after them, it is interned when the list goes on with it
    pub Interns-firsts : (xs : List A) (y : A) (place : ℕ)
        → (slice_get (firsts same xs) place ≡ Some y) ⊎ ((Contains (firsts same xs) y → ⊥) × (place
        ≡ length (firsts same xs))) → Interns (firsts same xs) (firsts same (xs ++ y ∷ [])) y place
    Interns-firsts xs y place (inl here) = inl (record { stands = here; same = found_more xs y place here })
    Interns-firsts xs y place (inr fresh) =
        inr (record { absent = fresh.0; last = fresh.1; grown = fresh_more xs y fresh.0 })
