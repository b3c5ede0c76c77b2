-- Where a key stands in a set that keeps the order of insertion.
use Rattle.std.proofs.Common.{arith, ◌≡◌, ap, ◌∙◌, refl, ℕ, zero, suc, ◌<◌, length, Bool, true, false, List, [], ◌∷◌}
use Rattle.std.proofs.Common.{inl, inr, subst, slice_get, Some}
use Rattle.std.specs.List.{list_any, Contains, slice_index_or, position_or_len}
use Rattle.indexmap.specs.IndexSet.{insert_key}
use Rattle.ra_indirect.specs.Interned.{Interns}

or_any : {X : Type 0} (test : X → Bool) (x : X) (xs : List X) (b : Bool) → test x ≡ b
    → list_any test xs ≡ true → list_any test (x ∷ xs) ≡ true
or_any test x xs true passes any = rw passes refl
or_any test x xs false passes any = rw passes any

-- a test that an element passes finds it
any_at : {X : Type 0} (test : X → Bool) (k : X) → test k ≡ true → (xs : List X) (i : ℕ)
    → i < length xs → slice_index_or xs i k ≡ k → list_any test xs ≡ true
any_at test k passes [] i within is = absurd (omega arith)
any_at test k passes (x ∷ xs) zero within is = let here : test x ≡ true = ap test is ∙ passes in rw here refl
any_at test k passes (x ∷ xs) (suc i) within is =
    or_any test x xs (test x) refl (any_at test k passes xs i (omega arith) is)

none_step : {X : Type 0} (test : X → Bool) (x : X) (xs : List X) (b : Bool) → test x ≡ b
    → (list_any test xs ≡ false → position_or_len test xs ≡ length xs) → list_any test (x ∷ xs)
    ≡ false → position_or_len test (x ∷ xs) ≡ length (x ∷ xs)
none_step test x xs true passes rest none = let bad : true ≡ false = rw passes at none in absurd (cc)
none_step test x xs false passes rest none =
    let none_later : list_any test xs ≡ false = rw passes at none in
    let later = rest none_later in
    rw passes (omega arith)

-- where no element passes, the first that does is behind the last
pub none_before : {X : Type 0} (test : X → Bool) (xs : List X) → list_any test xs ≡ false
    → position_or_len test xs ≡ length xs
none_before test [] none = refl
none_before test (x ∷ xs) none = none_step test x xs (test x) refl (none_before test xs) none

module _ {T : Type 0} (eq : T → T → Bool) (same : (x y : T) → eq x y ≡ true → x ≡ y)
    (itself : (x : T) → eq x x ≡ true) where
  -- a key that none of the list equals is not in it
  absent_from : (old : List T) (k : T) → list_any (eq k) old ≡ false → Contains old k → ⊥
  absent_from old k none has =
      let found = any_at (eq k) k (itself k) old has.0 has.1 has.2 in
      absurd (cc)

  -- an insert finds the key, or the key is new and goes last
  pub Interns-inserted : (old new : List T) (k : T) (i : ℕ) → new ≡ insert_key eq old k → i
      ≡ position_or_len (eq k) old → slice_get new i ≡ Some k → Interns old new k i
  Interns-inserted old new k i is place here = by (list_any (eq k) old) refl
    where
      by : (b : Bool) → list_any (eq k) old ≡ b → Interns old new k i
      by true any =
          let stays : new ≡ old = is ∙ rw any refl in
          inl (record { stands = subst (λ ks. slice_get ks i ≡ Some k) stays here; same = stays })
      by false none =
          inr (record
          { absent = absent_from old k none; last = place ∙ none_before (eq k) old none; grown = is ∙ rw none refl })
