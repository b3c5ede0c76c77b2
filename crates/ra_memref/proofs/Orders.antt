-- An order in which each cell stands once: what is counted over it is counted over the cells.
use Rattle.std.proofs.Common.{◌≡◌, ℕ, zero, suc, ◌+◌, ◌++◌, ◌<◌, ◌≤◌, ◌==◌, inl, inr, Bool, true, false, not, ◌||◌}
use Rattle.std.proofs.Common.{if◌then◌else◌, cond, List, [], ◌∷◌, length, take, get_or, refl, ap, sym, ◌∙◌, arith}
use Rattle.std.specs.List.{range_with_len, count_by, sum_by}
use Rattle.std.proofs.lemmas.List.Sorted.{sum_by-IsPermutation, All-permutation, length_permutation}
use Rattle.std.proofs.lemmas.List.Sums.{sum_by_more, sum_by_more_le, sum_by-cons}
use Rattle.std.proofs.lemmas.List.FromFn.{length-range_with_len, get_or-range_with_len}
use Rattle.std.proofs.lemmas.Bool.{eq-eqb, ne_eqb, cases_eq}
use Rattle.std.proofs.lemmas.List.{take_all}
use Rattle.ra_memref.specs.Watches.{IsOrder, order_by, one_unmarked}

-- 1 for one number, and 0 for each other
abbrev pub one_for : ℕ → ℕ → ℕ
one_for k c = cond (c == k) 1 0

one_same : (k : ℕ) → one_for k k ≡ 1
one_same k = ap (λ b. cond b 1 0) (eq-eqb k k refl)

one_apart : (k c : ℕ) → (c ≡ k → ⊥) → one_for k c ≡ 0
one_apart k c apart = ap (λ b. cond b 1 0) (ne_eqb c k apart)

-- a number that is below a range stands there never
none_in : (n a k : ℕ) → k < a → sum_by (one_for k) (range_with_len a n) ≡ 0
none_in zero a k below = refl
none_in (suc n) a k below =
    let rest = none_in n (a + 1) k (omega (arith, below)) in
    let here = one_apart k a (λ same. absurd (omega (arith, same, below))) in
    sum_by-cons (one_for k) a (range_with_len (a + 1) n) ∙ omega (arith, rest, here)

-- one that is in it stands there once
once_in : (n a k : ℕ) → a ≤ k → k < a + n → sum_by (one_for k) (range_with_len a n) ≡ 1
once_in zero a k from below = absurd (omega (arith, from, below))
once_in (suc n) a k from below = elim (cases_eq a k) [
  | inl same ↦ (let rest = none_in n (a + 1) k (omega (arith, same)) in
      let here : one_for k a ≡ 1 = ap (one_for k) same ∙ one_same k in
      sum_by-cons (one_for k) a (range_with_len (a + 1) n) ∙ omega (arith, rest, here))
  | inr apart ↦ (let rest = once_in n (a + 1) k (omega (arith, from, apart)) (omega (arith, below)) in
      let here = one_apart k a apart in
      sum_by-cons (one_for k) a (range_with_len (a + 1) n) ∙ omega (arith, rest, here))
]

-- the cells that are not marked, counted over their numbers
unmarked_in : (marks : List Bool) (a : ℕ) (f : ℕ → ℕ) → ((i : ℕ) → f (a + i) ≡ one_unmarked marks i)
    → sum_by f (range_with_len a (length marks)) ≡ count_by not marks
unmarked_in [] a f each = refl
unmarked_in (mark ∷ marks) a f each =
    let here : a ≡ a + 0 = omega arith in
    let first : f a ≡ cond (not mark) 1 0 = ap f here ∙ each zero ∙ one_of mark in
    let rest = unmarked_in marks (a + 1) f (λ i. (let later : a + 1 + i ≡ a + suc i =
    omega arith in ap f later ∙ each (suc i))) in
    let both : f a + sum_by f (range_with_len (a + 1) (length marks)) ≡ cond
    (not mark) 1 0 + count_by not marks = omega (arith, first, rest) in
    sum_by-cons f a (range_with_len (a + 1) (length marks)) ∙ both
    ∙ sym (sum_by-cons (λ m. cond (not m) 1 0) mark marks)
  where
    one_of : (mark : Bool) → ◌≡◌ {A = ℕ} (if mark then 0 else 1) (cond (not mark) 1 0)
    one_of true = refl
    one_of false = refl

module _ (n : ℕ) (order : List ℕ) (is : IsOrder n order) where
  -- each is the number of a cell
  pub order_below : (i d : ℕ) → i < length order → get_or order i d < n
  order_below =
      All-permutation (λ c. c < n) (range_with_len 0 n) order is
      (λ i d below. (let here = get_or-range_with_len 0 n i d
      (omega (arith, below, length-range_with_len 0 n)) in omega (arith, here, below, length-range_with_len 0 n)))

  -- each cell stands in it once
  pub order_once : (k : ℕ) → k < n → sum_by (one_for k) order ≡ 1
  order_once k below = sum_by-IsPermutation (one_for k) (range_with_len 0 n) order is
      ∙ once_in n 0 k (omega arith) (omega (arith, below))

  -- as many are not marked in it as there are
  pub order_unmarked : (marks : List Bool) → length marks ≡ n → sum_by (one_unmarked marks) order ≡ count_by not marks
  order_unmarked marks long =
      sum_by-IsPermutation (one_unmarked marks) (range_with_len 0 n) order is
      ∙ ap (λ m. sum_by (one_unmarked marks) (range_with_len 0 m)) (sym long)
      ∙ unmarked_in marks 0 (one_unmarked marks) (λ i.
      (let same : 0 + i ≡ i = omega arith in ap (one_unmarked marks) same))

  -- there are as many turns as cells
  pub order_long : length order ≡ n
  order_long = length_permutation (range_with_len 0 n) order is ∙ length-range_with_len 0 n

-- a row that there is stands for itself
pub row_order : (n : ℕ) (order : List ℕ) → 0 < length order → IsOrder n (order_by n order) → IsOrder n order
row_order n [] some is = absurd (omega (arith, some))
row_order n (c ∷ order) some is = is

pub row_turn : (n : ℕ) (order : List ℕ) (turn : ℕ) → turn < length order
    → get_or order turn 0 ≡ get_or (order_by n order) turn 0
row_turn n [] turn below = absurd (omega (arith, below))
row_turn n (c ∷ order) turn below = refl

-- without a row each cell has its own turn
pub own_turn : (n : ℕ) (order : List ℕ) (turn : ℕ) → order ≡ [] → turn < n → turn ≡ get_or (order_by n order) turn 0
own_turn n order turn none below =
    let same : 0 + turn ≡ turn = omega arith in
    sym (ap (λ o. get_or (order_by n o) turn 0) none ∙ get_or-range_with_len 0 n turn 0 below ∙ same)

-- the marks of the cells of a part of an order are set where a test says so too, and the others are what they were
pub record AreVisited (old now : List Bool) (test : ℕ → Bool) (done : List ℕ) : Type 0 where
  pub long : length now ≡ length old
  pub visited : (k : ℕ) → 0 < sum_by (one_for k) done → get_or now k true ≡ (get_or old k true || test k)
  pub others : (k : ℕ) → sum_by (one_for k) done ≡ 0 → get_or now k true ≡ get_or old k true

pub visited_none : (old : List Bool) (test : ℕ → Bool) → AreVisited old old test []
visited_none old test = record {
  long = refl;
  visited = λ k some. absurd (omega (arith, some));
  others = λ k none. refl;
}

module _ (n : ℕ) (order : List ℕ) (is : IsOrder n order) (old now : List Bool) (test : ℕ → Bool)
    (i : ℕ) (below : i < length order) (part : AreVisited old now test (take i order)) where
  -- the cell whose turn comes was not visited
  pub turn_none : sum_by (one_for (get_or order i 0)) (take i order) ≡ 0
  turn_none =
      let cell = get_or order i 0 in
      let within = sum_by_more_le (one_for cell) order i 0 below in
      let once = order_once n order is cell (order_below n order is i 0 below) in
      let here = one_same cell in
      omega (arith, within, once, here)

  -- so its mark is what it was
  pub turn_mark : get_or now (get_or order i 0) true ≡ get_or old (get_or order i 0) true
  turn_mark = part.others (get_or order i 0) turn_none

  -- one cell more is visited
  pub visited_more : (next : List Bool) → length next ≡ length now
      → get_or next (get_or order i 0) true ≡ (get_or old (get_or order i 0) true || test (get_or order i 0))
      → ((k : ℕ) → (k ≡ get_or order i 0 → ⊥) → get_or next k true ≡ get_or now k true)
      → AreVisited old next test (take (i + 1) order)
  visited_more next long here apart =
      let cell = get_or order i 0 in
      let more : (k : ℕ) → sum_by (one_for k) (take (i + 1) order) ≡ sum_by (one_for k)
      (take i order) + one_for k cell = λ k. sum_by_more (one_for k) order i 0 below in
      record {
        long = long ∙ part.long;
        visited = λ k some. elim (cases_eq k cell) [
          | inl same ↦ ap (λ j. get_or next j true) same ∙ here ∙ ap (λ j. get_or old j true || test j) (sym same)
          | inr other ↦ (let none = one_apart k cell (λ same. other (sym same)) in
              apart k other ∙ part.visited k (omega (arith, some, more k, none)))
        ];
        others = λ k none. (let differ : (k ≡ cell → ⊥) = λ same.
            (let one : one_for k cell ≡ 1 = ap (one_for k) (sym same)
            ∙ one_same k in absurd (omega (arith, none, more k, one))) in
            apart k differ ∙ part.others k (omega (arith, none, more k)));
      }

-- all are visited
pub visited_all : (n : ℕ) (order : List ℕ) → IsOrder n order
    → (old now : List Bool) (test : ℕ → Bool) (i : ℕ) → length order ≤ i
    → AreVisited old now test (take i order) → (k : ℕ) → k < n → get_or now k true ≡ (get_or old k true || test k)
visited_all n order is old now test i end all k below =
    let whole : sum_by (one_for k) (take i order) ≡ 1 = ap (sum_by (one_for k))
    (take_all i order end) ∙ order_once n order is k below in
    all.visited k (omega (arith, whole))

-- one number more
pub range_more : (a n : ℕ) → range_with_len a (suc n) ≡ range_with_len a n ++ (a + n) ∷ []
range_more a zero = (let here : a ≡ a + 0 = omega arith in ap (λ x. x ∷ []) here)
range_more a (suc n) =
    let there : a + 1 + n ≡ a + suc n = omega arith in
    ap (λ l. a ∷ l) (range_more (a + 1) n ∙ ap (λ x. range_with_len (a + 1) n ++ x ∷ []) there)
