-- The places that pass a test, in order, and what is said of the two parts that a test makes of a list.
use Rattle.std.proofs.Common.{◌≡◌, ℕ, zero, suc, ◌+◌, ◌<◌, ◌≤◌, Bool, true, false, not, ◌&&◌, ◌||◌, cond, eqb, List, []}
use Rattle.std.proofs.Common.{◌∷◌, ◌++◌, length, get_or, take, refl, sym, ap, ◌∙◌, subst, inl, inr, arith, append-nil}
use Rattle.std.proofs.Common.{zero-add, length-append}
use Rattle.std.specs.List.{filter, range_with_len, list_any, list_all}
use Rattle.std.proofs.lemmas.List.{get_or_append_left, get_or_push, take-append-le, take_at, length_push}
use Rattle.std.proofs.lemmas.List.Elements.{filter-append}
use Rattle.std.proofs.lemmas.List.Folds.{list_any-append, list_all-append}
use Rattle.std.proofs.lemmas.Bool.{cases_lt, eqb-true, ne_eqb, false≢true}

-- the places below m that pass the test, in order
abbrev pub chosen : (ℕ → Bool) → ℕ → List ℕ
chosen q m = filter q (range_with_len 0 m)

-- a range has its last number at the end
pub range_more : (a m : ℕ) → range_with_len a (suc m) ≡ range_with_len a m ++ (a + m) ∷ []
range_more a zero = let e : a ≡ a + 0 = omega arith in ap (λ x. x ∷ []) e
range_more a (suc m) =
    let e : a + 1 + m ≡ a + suc m = omega arith in
    ap (λ l. a ∷ l) (range_more (a + 1) m ∙ ap (λ x. range_with_len (a + 1) m ++ x ∷ []) e)

-- one place more
pub chosen_more : (q : ℕ → Bool) (m : ℕ) → chosen q (suc m) ≡ chosen q m ++ cond (q m) (m ∷ []) []
chosen_more q m =
    ap (filter q) (range_more 0 m)
    ∙ ap (λ x. filter q (range_with_len 0 m ++ x ∷ [])) (zero-add m)
    ∙ filter-append q (range_with_len 0 m) (m ∷ [])

-- the k-th of the places below m that pass is i: it passes, and before it stand those below i that pass
pub record StandsAt (q : ℕ → Bool) (m : ℕ) (xs : List ℕ) (k : ℕ) : Type 0 where
  pub passes : q (get_or xs k 0) ≡ true
  pub below : get_or xs k 0 < m
  pub front : take k xs ≡ chosen q (get_or xs k 0)

stands_last : (q : ℕ → Bool) (m k : ℕ) → q m ≡ true → k ≡ length (chosen q m)
    → StandsAt q (suc m) (chosen q m ++ m ∷ []) k
stands_last q m k passes e =
    let at = get_or_push (chosen q m) m 0 k (sym e) in
    record {
      passes = ap q at ∙ passes;
      below = let l : m < suc m = omega arith in let P : ℕ → Type 0 = λ i. i < suc m in subst P (sym at) l;
      front = take_at (chosen q m) (m ∷ []) k (sym e) ∙ sym (ap (chosen q) at);
    }

stands_left : (q : ℕ → Bool) (m k : ℕ) (more : List ℕ) → k < length (chosen q m)
    → StandsAt q m (chosen q m) k → StandsAt q (suc m) (chosen q m ++ more) k
stands_left q m k more l h =
    let at = get_or_append_left (chosen q m) more 0 k l in
    record {
      passes = ap q at ∙ h.passes;
      below = omega (arith, at, h.below);
      front = take-append-le k (chosen q m) more (omega arith) ∙ h.front ∙ sym (ap (chosen q) at);
    }

stands_more : (q : ℕ → Bool) (m k : ℕ) → ((j : ℕ) → j < length (chosen q m)
    → StandsAt q m (chosen q m) j) → (b : Bool) → q m ≡ b → k < length
    (chosen q m ++ cond b (m ∷ []) []) → StandsAt q (suc m) (chosen q m ++ cond b (m ∷ []) []) k
stands_more q m k below false e l =
    let l' : k < length (chosen q m) = omega (arith, ap length (append-nil (chosen q m))) in
    stands_left q m k [] l' (below k l')
stands_more q m k below true e l =
    elim (cases_lt k (length (chosen q m))) [
      | inl l' ↦ stands_left q m k (m ∷ []) l' (below k l')
      | inr g ↦ stands_last q m k e (omega (arith, length_push (chosen q m) m))
    ]

pub stands : (q : ℕ → Bool) (m k : ℕ) → k < length (chosen q m) → StandsAt q m (chosen q m) k
stands q zero k l = absurd (omega arith)
stands q (suc m) k l =
    let e = chosen_more q m in
    let l' : k < length (chosen q m ++ cond (q m) (m ∷ []) []) = omega (arith, ap length e) in
    subst (λ (xs : List ℕ). StandsAt q (suc m) xs k) (sym e) (stands_more q m k (stands q m) (q m) refl l')

-- more numbers have no fewer places that pass
pub length-chosen_more : (q : ℕ → Bool) (m : ℕ) → length (chosen q (suc m)) ≡ length (chosen q m) + cond (q m) 1 0
length-chosen_more q m = ap length (chosen_more q m) ∙ length-append (chosen q m)
    (cond (q m) (m ∷ []) []) ∙ ap (λ n. length (chosen q m) + n) (one_or_none (q m))
  where
    one_or_none : (b : Bool) → length (cond b (m ∷ []) []) ≡ cond b 1 0
    one_or_none true = refl
    one_or_none false = refl

pub chosen_rises : (q : ℕ → Bool) (m n : ℕ) → length (chosen q m) ≤ length (chosen q (m + n))
chosen_rises q m zero = let e : m ≡ m + 0 = omega arith in let P : ℕ → Type 0 =
    λ k. length (chosen q m) ≤ length (chosen q k) in subst P e (omega arith)
chosen_rises q m (suc n) =
    let e : suc (m + n) ≡ m + suc n = omega arith in
    let P : ℕ → Type 0 = λ k. length (chosen q m) ≤ length (chosen q k) in
    let below = chosen_rises q m n in
    let more = length-chosen_more q (m + n) in
    let l : length (chosen q m) ≤ length (chosen q (suc (m + n))) = omega (arith, below, more) in
    subst P e l

-- none of the places below m is i, where m is i or below it
pub chosen_fresh : (q : ℕ → Bool) (m i : ℕ) → m ≤ i → list_any (λ x. eqb x i) (chosen q m) ≡ false
chosen_fresh q zero i h = refl
chosen_fresh q (suc m) i h =
    let n : eqb m i ≡ false = ne_eqb m i (λ e. omega (arith, e)) in
    ap (list_any (λ x. eqb x i)) (chosen_more q m)
    ∙ list_any-append (λ x. eqb x i) (chosen q m) (cond (q m) (m ∷ []) [])
    ∙ ap (λ b. b || list_any (λ x. eqb x i) (cond (q m) (m ∷ []) [])) (chosen_fresh q m i (omega arith))
    ∙ one_fresh (q m) m i n
  where
    one_fresh : (b : Bool) (m i : ℕ) → eqb m i ≡ false → list_any (λ x. eqb x i) (cond b (m ∷ []) []) ≡ false
    one_fresh false m i n = refl
    one_fresh true m i n = ap (λ b. b || false) n

-- a number that does not pass is not among those that do
pub filter_fresh : (q : ℕ → Bool) (i : ℕ) → q i ≡ false → (xs : List ℕ) → list_any (λ x. eqb x i) (filter q xs) ≡ false
filter_fresh q i fails [] = refl
filter_fresh q i fails (x ∷ xs) = fresh_more (filter q xs) (filter_fresh q i fails xs) (q x) refl (eqb x i) refl
  where
    fresh_more : (ys : List ℕ) → list_any (λ y. eqb y i) ys ≡ false → (b : Bool) → q x ≡ b
        → (t : Bool) → eqb x i ≡ t → list_any (λ y. eqb y i) (cond b (x ∷ ys) ys) ≡ false
    fresh_more ys rest false e t s = rest
    fresh_more ys rest true e true s = absurd (false≢true (sym fails ∙ ap q (sym (eqb-true x i s)) ∙ e))
    fresh_more ys rest true e false s = ap (λ b. b || list_any (λ y. eqb y i) ys) s ∙ rest

or_shift : (a b c : Bool) → (a || (b || c)) ≡ (b || (a || c))
or_shift true true c = refl
or_shift true false c = refl
or_shift false b c = refl

and_shift : (a b c : Bool) → (a && (b && c)) ≡ (b && (a && c))
and_shift true b c = refl
and_shift false true c = refl
and_shift false false c = refl

or_assoc : (a b c : Bool) → ((a || b) || c) ≡ (a || (b || c))
or_assoc true b c = refl
or_assoc false b c = refl

and_assoc : (a b c : Bool) → ((a && b) && c) ≡ (a && (b && c))
and_assoc true b c = refl
and_assoc false b c = refl

-- whether some passes, of those that a test takes and of the others, is whether some passes of all
pub any_parts : {X : Type 0} (p q : X → Bool) (xs : List X)
    → list_any p (filter q xs ++ filter (λ x. not (q x)) xs) ≡ list_any p xs
any_parts p q xs = list_any-append p (filter q xs) (filter (λ x. not (q x)) xs) ∙ any_either p q xs
  where
    any_step : {X : Type 0} (p : X → Bool) (x : X) (b : Bool) (xs ys : List X)
        → (list_any p (cond b (x ∷ xs) xs) || list_any p (cond (not b) (x ∷ ys) ys))
        ≡ (p x || (list_any p xs || list_any p ys))
    any_step p x true xs ys = or_assoc (p x) (list_any p xs) (list_any p ys)
    any_step p x false xs ys = or_shift (list_any p xs) (p x) (list_any p ys)

    any_either : {X : Type 0} (p q : X → Bool) (xs : List X)
        → (list_any p (filter q xs) || list_any p (filter (λ x. not (q x)) xs)) ≡ list_any p xs
    any_either p q [] = refl
    any_either p q (x ∷ xs) = any_step p x (q x) (filter q xs) (filter (λ x. not (q x)) xs)
        ∙ ap (λ b. p x || b) (any_either p q xs)

pub all_parts : {X : Type 0} (p q : X → Bool) (xs : List X)
    → list_all p (filter q xs ++ filter (λ x. not (q x)) xs) ≡ list_all p xs
all_parts p q xs = list_all-append p (filter q xs) (filter (λ x. not (q x)) xs) ∙ all_both p q xs
  where
    all_step : {X : Type 0} (p : X → Bool) (x : X) (b : Bool) (xs ys : List X)
        → (list_all p (cond b (x ∷ xs) xs) && list_all p (cond (not b) (x ∷ ys) ys))
        ≡ (p x && (list_all p xs && list_all p ys))
    all_step p x true xs ys = and_assoc (p x) (list_all p xs) (list_all p ys)
    all_step p x false xs ys = and_shift (list_all p xs) (p x) (list_all p ys)

    all_both : {X : Type 0} (p q : X → Bool) (xs : List X)
        → (list_all p (filter q xs) && list_all p (filter (λ x. not (q x)) xs)) ≡ list_all p xs
    all_both p q [] = refl
    all_both p q (x ∷ xs) = all_step p x (q x) (filter q xs) (filter (λ x. not (q x)) xs)
        ∙ ap (λ b. p x && b) (all_both p q xs)
