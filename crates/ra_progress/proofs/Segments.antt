-- The own entries of a name, by the places of its range in the order of names.
use Rattle.std.proofs.Common.{◌≡◌, ℕ, zero, suc, ◌+◌, ◌-◌, ◌<◌, ◌≤◌, ◌==◌, Bool, true, false, if◌then◌else◌, List, []}
use Rattle.std.proofs.Common.{◌∷◌, length, map, take, drop, slice_index, sum_by, bytes_eq, filter, refl, sym, ◌∙◌, ap}
use Rattle.std.proofs.Common.{ap₂, subst, arith, inl, inr}
use Rattle.std.proofs.lemmas.Bool.{cases_lt, eq-eqb, ne_eqb}
use Rattle.std.proofs.lemmas.List.Sums.{sum_by-cons}
use Rattle.std.proofs.lemmas.List.Sorted.{sum_by-IsPermutation}
use Rattle.std.specs.List.{AllByRecursion, range_with_len}
use Rattle.std.specs.List.Sorted.{IsPermutation}
use Rattle.std.proofs.lemmas.Slice.Eq.{bytes_eq-Decides}
use Rattle.std.proofs.lemmas.List.{length-map}
use Rattle.std.proofs.Math.ListN.{get_or-map}
use Rattle.std.proofs.lemmas.List.Sorted.{sorted_far, ranks_by}
use Rattle.std.specs.Ordering.{nat_cmp, ordering_then, ordering_reverse, is_lt}
use Rattle.std.specs.declared.cmp.Ordering.{Ordering}
use Rattle.std.specs.declared.cmp.Ordering.TheVariants.{Less, Equal, Greater}
use Rattle.std.specs.Cmp.{nat_cmp_total, nat_cmp_is}
use Rattle.std.specs.Cmp.Lexicographic.{slice_cmp, lists_total}
use Rattle.ra_progress.specs.Contents.{Name, Own, own_at}
use Rattle.ra_progress.specs.Names.{IsOrder, IsRange, named_by, place_cmp}
use Rattle.ra_progress.proofs.Orders.{places_total}

-- how often a number stands in a list
abbrev pub one_of : ℕ → ℕ → ℕ
one_of x y = if y == x then 1 else 0

abbrev pub times : ℕ → List ℕ → ℕ
times x ys = sum_by (one_of x) ys

-- numbers that do not fall
abbrev pub Rises : List ℕ → Type 0
Rises [] = Unit {0}
Rises (x ∷ xs) = AllByRecursion (λ y. x ≤ y) xs × Rises xs

-- a number below all others stands in none of their places
absent : (x : ℕ) (ys : List ℕ) → AllByRecursion (λ y. x < y) ys → times x ys ≡ 0
absent x [] all = refl
absent x (y ∷ ys) all =
    let rest = absent x ys all.1 in
    let other : (y == x) ≡ false = ne_eqb y x (λ same. absurd (omega (arith, same, all.0))) in
    let here : one_of x y ≡ 0 = rw other refl in
    omega (arith, sum_by-cons (one_of x) y ys, here, rest)

above : (x y : ℕ) (ys : List ℕ) → x < y → AllByRecursion (λ z. y ≤ z) ys → AllByRecursion (λ z. x < z) ys
above x y [] less all = tt
above x y (z ∷ ys) less all = (omega (arith, less, all.0), above x y ys less all.1)

itself : (x : ℕ) → one_of x x ≡ 1
itself x = let same : (x == x) ≡ true = eq-eqb x x refl in rw same refl

-- numbers that do not fall are one list where each stands as often in both
pub one_list : (xs ys : List ℕ) → Rises xs → Rises ys → ((z : ℕ) → times z xs ≡ times z ys) → xs ≡ ys
one_list [] [] left right same = refl
one_list [] (y ∷ ys) left right same =
    absurd (omega (arith, same y, sum_by-cons (one_of y) y ys, itself y))
one_list (x ∷ xs) [] left right same =
    absurd (omega (arith, same x, sum_by-cons (one_of x) x xs, itself x))
one_list (x ∷ xs) (y ∷ ys) left right same = elim (cases_lt x y) [
  | inl less ↦ absurd (omega
      (arith, same x, sum_by-cons (one_of x) x xs, itself x, absent x (y ∷ ys) (less, above x y ys less right.0)))
  | inr fine ↦ elim (cases_lt y x) [
    | inl less ↦ absurd (omega
        (arith, same y, sum_by-cons (one_of y) y ys, itself y, absent y (x ∷ xs) (less, above y x xs less left.0)))
    | inr back ↦
        let one : x ≡ y = omega (arith, fine, back) in
        let rest : xs ≡ ys = one_list xs ys left.1 right.1 (λ z.
        let e : one_of z x ≡ one_of z y = ap (one_of z) one in
        omega (arith, same z, sum_by-cons (one_of z) x xs, sum_by-cons (one_of z) y ys, e)) in
        rw (one, rest) refl
  ]
]

-- a number that a test drops counts for nothing
abbrev pub passed : (ℕ → Bool) → ℕ → ℕ → ℕ
passed p x y = if p y then one_of x y else 0

times_filter : (p : ℕ → Bool) (x : ℕ) (ys : List ℕ) → times x (filter p ys) ≡ sum_by (passed p x) ys
times_filter p x [] = refl
times_filter p x (y ∷ ys) =
    let rest = times_filter p x ys in
    let right = sum_by-cons (passed p x) y ys in
    elim (p y) as (λ b. sum_by (passed p x) (y ∷ ys)
    ≡ (if b then one_of x y else 0) + sum_by (passed p x) ys
    → times x (if b then y ∷ filter p ys else filter p ys) ≡ sum_by (passed p x) (y ∷ ys)) [
      | true ↦ λ e. omega (arith, sum_by-cons (one_of x) y (filter p ys), e, rest)
      | false ↦ λ e. omega (arith, e, rest)
    ] right

all_filter : (x : ℕ) (p : ℕ → Bool) (ys : List ℕ) → AllByRecursion (λ y. x ≤ y) ys
    → AllByRecursion (λ y. x ≤ y) (filter p ys)
all_filter x p [] all = tt
all_filter x p (y ∷ ys) all =
    elim (p y) as (λ b. AllByRecursion (λ y. x ≤ y) (if b then y ∷ filter p ys else filter p ys)) [
      | true ↦ (all.0, all_filter x p ys all.1)
      | false ↦ all_filter x p ys all.1
    ]

pub rises_filter : (p : ℕ → Bool) (xs : List ℕ) → Rises xs → Rises (filter p xs)
rises_filter p [] rises = tt
rises_filter p (x ∷ xs) rises = elim (p x) as (λ b. Rises (if b then x ∷ filter p xs else filter p xs)) [
  | true ↦ (all_filter x p xs rises.0, rises_filter p xs rises.1)
  | false ↦ rises_filter p xs rises.1
]

range_above : (a b n : ℕ) → a ≤ b → AllByRecursion (λ y. a ≤ y) (range_with_len b n)
range_above a b zero less = tt
range_above a b (suc n) less = (less, range_above a (b + 1) n (omega (arith, less)))

pub rises_range : (a n : ℕ) → Rises (range_with_len a n)
rises_range a zero = tt
rises_range a (suc n) = (range_above a (a + 1) n (omega arith), rises_range (a + 1) n)

-- of a list and its permutation that do not fall where a test passes, the same numbers pass
pub one_filter : (p : ℕ → Bool) (xs ys : List ℕ) → IsPermutation xs ys → Rises (filter p xs)
    → Rises (filter p ys) → filter p ys ≡ filter p xs
one_filter p xs ys moved left right =
    one_list (filter p ys) (filter p xs) right left (λ z. times_filter p z ys
    ∙ sum_by-IsPermutation (passed p z) xs ys moved ∙ sym (times_filter p z xs))

-- where a test passes from one place to another alone, what passes stands between them
pub between : (p : ℕ → Bool) (order : List ℕ) (from to : ℕ) → from ≤ to → to ≤ length order
    → ((k : ℕ) → k < from → p (slice_index order k) ≡ false)
    → ((k : ℕ) → from ≤ k → k < to → p (slice_index order k) ≡ true)
    → ((k : ℕ) → to ≤ k → k < length order → p (slice_index order k) ≡ false)
    → filter p order ≡ take (to - from) (drop from order)
between p [] zero zero up most before here behind = refl
between p [] zero (suc to) up most before here behind = absurd (omega (arith, most))
between p [] (suc from) to up most before here behind = absurd (omega (arith, up, most))
between p (x ∷ xs) zero zero up most before here behind =
    let rest = between p xs zero zero (omega arith) (omega arith)
    (λ k less. absurd (omega (arith, less))) (λ k low less. absurd (omega (arith, less)))
    (λ k high less. behind (suc k) (omega arith) (omega (arith, less))) in
    rw (behind 0 (omega arith) (omega arith)) rest
between p (x ∷ xs) zero (suc to) up most before here behind =
    let rest = between p xs zero to (omega arith) (omega (arith, most))
    (λ k less. absurd (omega (arith, less))) (λ k low less. here (suc k) (omega arith) (omega
    (arith, less))) (λ k high less. behind (suc k) (omega (arith, high)) (omega (arith, less))) in
    let a : suc to - 0 ≡ suc to = omega arith in
    let b : to - 0 ≡ to = omega arith in
    rw (a, here 0 (omega arith) (omega arith)) (ap (λ l. x ∷ l) (rest ∙ ap (λ n. take n xs) b))
between p (x ∷ xs) (suc from) zero up most before here behind = absurd (omega (arith, up))
between p (x ∷ xs) (suc from) (suc to) up most before here behind =
    let rest = between p xs from to (omega (arith, up)) (omega (arith, most)) (λ k less. before
    (suc k) (omega (arith, less))) (λ k low less. here (suc k) (omega (arith, low)) (omega
    (arith, less))) (λ k high less. behind (suc k) (omega (arith, high)) (omega (arith, less))) in
    let a : suc to - suc from ≡ to - from = omega arith in
    rw (a, before 0 (omega arith)) rest

-- what passes rises where each two places that pass do
all_passing : (p : ℕ → Bool) (x : ℕ) (xs : List ℕ) → ((j : ℕ) → j < length xs → p (slice_index xs j)
    ≡ true → x ≤ slice_index xs j) → AllByRecursion (λ y. x ≤ y) (filter p xs)
all_passing p x [] up = tt
all_passing p x (y ∷ xs) up =
    let rest = all_passing p x xs (λ j less. up (suc j) (omega (arith, less))) in
    elim (p y) as (λ b. p y ≡ b → AllByRecursion (λ y. x ≤ y) (if b then y ∷ filter p xs else filter p xs)) [
      | true ↦ λ e. (up 0 (omega arith) e, rest)
      | false ↦ λ e. rest
    ] refl

pub rises_passing : (p : ℕ → Bool) (xs : List ℕ)
    → ((i j : ℕ) → i ≤ j → j < length xs → p (slice_index xs i) ≡ true → p (slice_index xs j) ≡ true
    → slice_index xs i ≤ slice_index xs j) → Rises (filter p xs)
rises_passing p [] up = tt
rises_passing p (x ∷ xs) up =
    let rest = rises_passing p xs (λ i j low less. up (suc i) (suc j) (omega (arith, low)) (omega (arith, less))) in
    elim (p x) as (λ b. p x ≡ b → Rises (if b then x ∷ filter p xs else filter p xs)) [
      | true ↦ λ e. (all_passing p x xs (λ j less. up 0 (suc j) (omega arith) (omega (arith, less)) e), rest)
      | false ↦ λ e. rest
    ] refl

-- entries that pass, by their numbers
pub by_numbers : (q : Own → Bool) (f : ℕ → Own) (a : ℕ) (owns : List Own)
    → ((k : ℕ) → k < length owns → f (a + k) ≡ own_at owns k)
    → filter q owns ≡ map f (filter (λ k. q (f k)) (range_with_len a (length owns)))
by_numbers q f a [] agree = refl
by_numbers q f a (own ∷ owns) agree =
    let start : a + 0 ≡ a = omega arith in
    let first : f a ≡ own = ap f (sym start) ∙ agree 0 (omega arith) in
    let rest = by_numbers q f (a + 1) owns (λ k less. let e : a + 1 + k ≡ a + suc k = omega arith in
    ap f e ∙ agree (suc k) (omega (arith, less))) in
    let later = filter (λ k. q (f k)) (range_with_len (a + 1) (length owns)) in
    elim (q own) as (λ b. q (f a) ≡ b → (if b then own ∷ filter q owns else filter q owns)
    ≡ map f (if q (f a) then a ∷ later else later)) [
      | true ↦ λ e. rw (e, first) (ap (λ l. own ∷ l) rest)
      | false ↦ λ e. rw e rest
    ] (ap q first)

-- a name is the same as itself
same_name : (r : Ordering) → r ≡ ordering_reverse r → r ≡ Equal
same_name Less turned = absurd (cc turned)
same_name Equal turned = refl
same_name Greater turned = absurd (cc turned)

not_less : (m n : ℕ) → is_lt (nat_cmp m n) ≡ false → n ≤ m
not_less m n not = elim (cases_lt m n) [
  | inl less ↦ let e : Less ≡ nat_cmp m n = nat_cmp_is m n Less less in absurd (cc (ap is_lt e, not))
  | inr fine ↦ fine
]

module _ (owns : List Own) (names : List Name) (order : List ℕ) (is : IsOrder names order)
    (named : map (λ own. own.name) owns ≡ names) (name : Name) where
  abbrev pub has_it : ℕ → Bool
  has_it k = bytes_eq (own_at owns k).name name

  name_is : (k : ℕ) → named_by names k ≡ (own_at owns k).name
  name_is k = ap (λ l. named_by l k) (sym named) ∙ get_or-map (λ own. own.name) owns k (own_at [] 0)

  equal_rise : (i j : ℕ) → i ≤ j → j < length order → has_it (slice_index order i) ≡ true
      → has_it (slice_index order j) ≡ true → slice_index order i ≤ slice_index order j
  equal_rise i j low less one two =
      let a : named_by names (slice_index order i) ≡ name = name_is (slice_index order i)
      ∙ (bytes_eq-Decides (own_at owns (slice_index order i)).name name).0 one in
      let b : named_by names (slice_index order j) ≡ name = name_is (slice_index order j)
      ∙ (bytes_eq-Decides (own_at owns (slice_index order j)).name name).0 two in
      let sorted : is_lt (place_cmp names (slice_index order j) (slice_index order i)) ≡ false =
      sorted_far (λ x y. is_lt (place_cmp names x y))
      (ranks_by (places_total names) (λ n. n)) order is.rising i j 0 low less in
      let equal : slice_cmp nat_cmp name name ≡ Equal =
      same_name (slice_cmp nat_cmp name name) ((lists_total nat_cmp_total).antisymm name name) in
      let both : slice_cmp nat_cmp (named_by names (slice_index order j))
      (named_by names (slice_index order i)) ≡ Equal = ap₂ (slice_cmp nat_cmp) b a ∙ equal in
      not_less (slice_index order j) (slice_index order i) (sym (ap (λ r. is_lt
      (ordering_then r (nat_cmp (slice_index order j) (slice_index order i)))) both) ∙ sorted)

  -- the own entries of a name are those of its range, in rising number
  pub owns_in_range : (from to : ℕ) → IsRange names order name from to → filter
      (λ own. bytes_eq own.name name) owns ≡ map (own_at owns) (take (to - from) (drop from order))
  owns_in_range from to range =
      let few : length owns ≡ length names = sym (length-map owns (λ own. own.name)) ∙ ap length named in
      let places : filter has_it order ≡ take (to - from) (drop from order) =
      between has_it order from to range.within range.most
      (λ k less. not_yes k (omega (arith, less, range.within, range.most)) (λ yes. let in_it =
      (range.only k (omega (arith, less, range.within, range.most))).0
      (name_is (slice_index order k) ∙ yes) in absurd (omega (arith, less, in_it.0))))
      (λ k low less. (bytes_eq-Decides (own_at owns (slice_index order k)).name name).1
      (sym (name_is (slice_index order k))
      ∙ (range.only k (omega (arith, less, range.most))).1 (low, less)))
      (λ k high less. not_yes k less (λ yes. let in_it = (range.only k less).0
      (name_is (slice_index order k) ∙ yes) in absurd (omega (arith, high, in_it.1)))) in
      let moved : IsPermutation (range_with_len 0 (length owns)) order =
      subst (λ n. IsPermutation (range_with_len 0 n) order) (sym few) is.each in
      by_numbers (λ own. bytes_eq own.name name) (own_at owns) 0 owns (λ k less. let e : 0 + k ≡ k =
      omega arith in ap (own_at owns) e)
      ∙ ap (map (own_at owns)) (sym (one_filter has_it (range_with_len 0 (length owns)) order moved
      (rises_filter has_it (range_with_len 0 (length owns)) (rises_range 0 (length owns)))
      (rises_passing has_it order equal_rise)) ∙ places)
    where
      not_yes : (k : ℕ) → k < length order → ((own_at owns (slice_index order k)).name ≡ name → ⊥)
          → has_it (slice_index order k) ≡ false
      not_yes k less never = elim (has_it (slice_index order k)) as
          (λ b. has_it (slice_index order k) ≡ b → b ≡ false) [
            | true ↦ λ e. absurd (never ((bytes_eq-Decides (own_at owns (slice_index order k)).name name).0 e))
            | false ↦ λ e. refl
          ] refl
