-- Pages that are told of, and the cells that watch them.
use Rattle.std.proofs.Common.{◌≡◌, ℕ, zero, suc, ◌+◌, ◌-◌, ◌*◌, ◌/◌, ◌<◌, ◌≤◌, ◌==◌, inl, inr, Bool, true, false}
use Rattle.std.proofs.Common.{if◌then◌else◌, not, ◌&&◌, ◌||◌, Option, None, Some, List, [], ◌∷◌, length, refl, sym, ◌∙◌}
use Rattle.std.proofs.Common.{ap, arith, subst, leb, ltb}
use Rattle.std.specs.List.{list_any, range_with_len}
use Rattle.std.specs.Prelude.{nat_lt, nat_le}
use Rattle.std.proofs.lemmas.Bool.{eq-eqb, ne_eqb, false≢true, cases_eq, cases_lt, lt-ltb, le-leb, ltb-true, leb-true}
use Rattle.std.proofs.lemmas.Bool.{and_from, and_parts, or_cases, or_left, or_right}
use Rattle.std.proofs.lemmas.Bool.Decides.{eqb_tells, leb_tells}
use Rattle.ra_links.specs.Rows.{Rows, IsOnce, holds, row_at, holder_of, holder_from}
use Rattle.ra_links.proofs.Members.{In_holds, holds_In}
use Rattle.ra_links.proofs.Lookups.{holder_some}
use Rattle.ra_memref.specs.Marks.{page_of, touches, is_watched}
use Rattle.ra_memref.specs.Marking.{is_at, is_before, is_between}
use Rattle.ra_memref.specs.Watches.{pages_of, first_page, second_page, reaches, watches_between}

-- two tests that imply each other are one
pub same_tests : (a b : Bool) → (a ≡ true → b ≡ true) → (b ≡ true → a ≡ true) → a ≡ b
same_tests true true f g = refl
same_tests true false f g = absurd (false≢true (f refl))
same_tests false true f g = absurd (false≢true (g refl))
same_tests false false f g = refl

-- what is found to hold a node holds it
found_by : (number node q : ℕ) (row : List ℕ) (lists : List (List ℕ))
    → (holder_from (number + 1) lists node ≡ Some q
    → (l : ℕ) × (q ≡ number + 1 + l) × (holds node (row_at lists l) ≡ true)) → (b : Bool)
    → holds node row ≡ b → (if b then Some number else holder_from (number + 1) lists node) ≡ Some q
    → (l : ℕ) × (q ≡ number + l) × (holds node (row_at (row ∷ lists) l) ≡ true)
found_by number node q row lists more true held is = (0, omega (arith, ap (of number) is), held)
  where
    of : ℕ → Option ℕ → ℕ
    of d None = d
    of d (Some n) = n
found_by number node q row lists more false held is =
    let rest = more is in
    (suc rest.0, omega (arith, rest.1), rest.2)

pub holder_holds : (number node q : ℕ) (lists : List (List ℕ))
    → holder_from number lists node ≡ Some q → (l : ℕ) × (q ≡ number + l) × (holds node (row_at lists l) ≡ true)
holder_holds number node q [] is = cc
holder_holds number node q (row ∷ lists) is =
    found_by number node q row lists (holder_holds (number + 1) node q lists) (holds node row) refl is

module _ (pages : Rows) (once : IsOnce pages) (page : ℕ) (below : page < length pages.lists) where
  at_by : (node : ℕ) (o : Option ℕ) → holder_of pages.lists node ≡ o → is_at o page ≡ true
      → holds node (row_at pages.lists page) ≡ true
  at_by node None found is = absurd (false≢true is)
  at_by node (Some q) found is = elim (eqb_tells q page) [
    | inl e ↦
        let there = holder_holds 0 node q pages.lists found in
        let same : there.0 ≡ page = omega (arith, there.1, e.1) in
        subst (λ l. holds node (row_at pages.lists l) ≡ true) same there.2
    | inr n ↦ absurd (false≢true (sym n.0 ∙ is))
  ]

  -- a list holds a node where the node is on that list
  pub holds_at : (node : ℕ) → holds node (row_at pages.lists page) ≡ is_at (holder_of pages.lists node) page
  holds_at node =
      let there : holds node (row_at pages.lists page) ≡ true → is_at (holder_of pages.lists node) page ≡ true = λ held.
      let found : holder_of pages.lists node ≡ Some (0 + page) =
      holder_some 0 pages.lists node page below (In_holds node (row_at pages.lists page) held)
      (λ k small h. once.one_list k page node (holds_In node (row_at pages.lists k) h) held) in
      let here : 0 + page ≡ page = omega arith in
      rw (found, here) (eq-eqb page page refl) in
      same_tests (holds node (row_at pages.lists page))
      (is_at (holder_of pages.lists node) page) there (λ is. at_by node (holder_of pages.lists node) refl is)

-- one page more
pub between_more : (first page : ℕ) (o : Option ℕ) → first ≤ page
    → is_between first (page + 1) o ≡ (is_between first page o || is_at o page)
between_more first page None above = refl
between_more first page (Some q) above = elim (eqb_tells q page) [
  | inl e ↦
      let low : leb first q ≡ true = le-leb first q (omega (arith, e.1)) in
      let high : ltb q (page + 1) ≡ true = lt-ltb q (page + 1) (omega (arith, e.1)) in
      rw (e.0, low, high) (sym (or-true (ltb q page)))
  | inr n ↦ elim (leb_tells (suc q) page) [
    | inl s ↦
        let high : ltb q (page + 1) ≡ true = lt-ltb q (page + 1) (omega (arith, s.1)) in
        rw (n.0, s.0, high) (sym (or-false (leb first q && true)))
    | inr s ↦
        let high : ltb q (page + 1) ≡ false = not_lt q (page + 1) (λ l. n.1 (omega (arith, l, s.1))) in
        rw (n.0, s.0, high) (sym (or-false (leb first q && false)))
  ]
]
  where
    or-true : (b : Bool) → (b || true) ≡ true
    or-true true = refl
    or-true false = refl

    or-false : (b : Bool) → (b || false) ≡ b
    or-false true = refl
    or-false false = refl

    not_lt : (a b : ℕ) → (a < b → ⊥) → ltb a b ≡ false
    not_lt a b out = elim (leb_tells (suc a) b) [ inl l ↦ absurd (out l.1) | inr l ↦ l.0 ]

-- a test of numbers in a row
found_by_first : (test : ℕ → Bool) (a n : ℕ) → (list_any test (range_with_len (a + 1) n) ≡ true
    → (k : ℕ) × (a + 1 ≤ k) × (k < a + 1 + n) × (test k ≡ true)) → (b : Bool) → test a ≡ b
    → (b || list_any test (range_with_len (a + 1) n)) ≡ true → (k : ℕ) × (a ≤ k) × (k < a + suc n) × (test k ≡ true)
found_by_first test a n more true here is = (a, omega arith, omega arith, here)
found_by_first test a n more false here is =
    let rest = more is in
    (rest.0, omega (arith, rest.1), omega (arith, rest.2), rest.3)

pub found_in_range : (test : ℕ → Bool) (a n : ℕ) → list_any test (range_with_len a n) ≡ true
    → (k : ℕ) × (a ≤ k) × (k < a + n) × (test k ≡ true)
found_in_range test a zero is = absurd (false≢true is)
found_in_range test a (suc n) is = found_by_first test a n (found_in_range test (a + 1) n) (test a) refl is

or_true : (b : Bool) → (b || true) ≡ true
or_true true = refl
or_true false = refl

pub in_range_found : (test : ℕ → Bool) (a n k : ℕ) → a ≤ k → k < a + n → test k ≡ true
    → list_any test (range_with_len a n) ≡ true
in_range_found test a zero k low high is = absurd (omega (arith, low, high))
in_range_found test a (suc n) k low high is = elim (cases_eq a k) [
  | inl e ↦ ap (λ b. b || list_any test (range_with_len (a + 1) n)) (ap test e ∙ is)
  | inr n' ↦ ap (λ b. test a || b) (in_range_found test (a + 1) n k (omega (arith, low, n'))
      (omega (arith, high)) is) ∙ or_true (test a)
]

-- pages that stand between two
between_true : (first last page : ℕ) → first ≤ page → page < last → is_between first last (Some page) ≡ true
between_true first last page low high = and_from (leb first page) (ltb page last)
    (le-leb first page low) (lt-ltb page last high)

between_is : (first last : ℕ) (o : Option ℕ) → is_between first last o ≡ true
    → (page : ℕ) × (o ≡ Some page) × (first ≤ page) × (page < last)
between_is first last None is = absurd (false≢true is)
between_is first last (Some page) is =
    let both = and_parts (leb first page) (ltb page last) is in
    (page, refl, leb-true first page both.0, ltb-true page last both.1)

abbrev or_zero : Option ℕ → ℕ
or_zero None = 0
or_zero (Some n) = n

first_is : (size place page : ℕ) → first_page size place ≡ Some page → (place < size) × (page ≡ place / 16)
first_is size place page is = elim (leb_tells (suc place) size) [
  | inl l ↦ (l.1, sym (ap or_zero (rw l.0 at is)))
  | inr l ↦ let none : None ≡ Some page = rw l.0 at is in cc
]

first_some : (size place : ℕ) → place < size → first_page size place ≡ Some (place / 16)
first_some size place below = rw (lt-ltb place size below) refl

second_by : (page first all : ℕ) (other : ℕ) → (if not
    (page == first) && nat_lt page all then Some page else None) ≡ Some other
    → (page ≡ first → ⊥) × (page < all) × (other ≡ page)
second_by page first all other is = elim (eqb_tells page first) [
  | inl e ↦ let none : None ≡ Some other = rw e.0 at is in cc
  | inr n ↦ elim (leb_tells (suc page) all) [
    | inl l ↦ (n.1, l.1, sym (ap or_zero (rw (n.0, l.0) at is)))
    | inr l ↦ let none : None ≡ Some other = rw (n.0, l.0) at is in cc
  ]
]

second_some : (page first all : ℕ) → (page ≡ first → ⊥) → page < all
    → (if not (page == first) && nat_lt page all then Some page else None) ≡ Some page
second_some page first all apart below = rw (ne_eqb page first apart, lt-ltb page all below) refl

module _ (size place width at count : ℕ) (some : 0 < count) (few : width ≤ 4) (one : 0 < width) where
  abbrev from : ℕ
  from = at / 16

  abbrev to : ℕ
  to = (at + count - 1) / 16 + 1

  abbrev watches : ℕ → Bool
  watches k = nat_lt k size && touches at count (page_of k)

  watches_from : (k : ℕ) → k < size → from ≤ k / 16 → k / 16 < to → watches k ≡ true
  watches_from k below low high =
      and_from (nat_lt k size) (touches at count (page_of k)) (lt-ltb k size below)
      (and_from (nat_lt 0 count) (nat_le (page_of at) (page_of k) && nat_le (page_of k)
      (page_of (at + count - 1))) (lt-ltb 0 count some)
      (and_from (nat_le (page_of at) (page_of k)) (nat_le (page_of k) (page_of (at + count - 1)))
      (le-leb (page_of at) (page_of k) low) (le-leb (page_of k) (page_of (at + count - 1)) (omega (arith, high)))))

  watches_to : (k : ℕ) → watches k ≡ true → (k < size) × (from ≤ k / 16) × (k / 16 < to)
  watches_to k is =
      let both = and_parts (nat_lt k size) (touches at count (page_of k)) is in
      let inner = and_parts (nat_lt 0 count) (nat_le (page_of at) (page_of k) && nat_le (page_of k)
      (page_of (at + count - 1))) both.1 in
      let last = and_parts (nat_le (page_of at) (page_of k)) (nat_le (page_of k) (page_of (at + count - 1))) inner.1 in
      let high : page_of k ≤ page_of (at + count - 1) = leb-true (page_of k) (page_of (at + count - 1)) last.1 in
      (ltb-true k size both.0, leb-true (page_of at) (page_of k) last.0, omega (arith, high))

  abbrev both_pages : Bool
  both_pages = is_between from to (first_page size place) || is_between from to (second_page size place width)

  forward : is_watched size place width at count ≡ true → both_pages ≡ true
  forward is =
      let found = found_in_range watches place width is in
      let k = found.0 in
      let told = watches_to k found.3 in
      elim (cases_eq (k / 16) (place / 16)) [
        | inl e ↦
            let low : from ≤ place / 16 = omega (arith, told.1, e) in
            let high : place / 16 < to = omega (arith, told.2, e) in
            let here : is_between from to (first_page size place) ≡ true = ap (is_between from to)
            (first_some size place (omega (arith, found.1, told.0))) ∙ between_true from to (place / 16) low high in
            or_left (is_between from to (first_page size place))
            (is_between from to (second_page size place width)) here
        | inr n ↦
            let same : (place + width - 1) / 16 ≡ k / 16 = omega (arith, n, found.1, found.2, few, one) in
            let below : (place + width - 1) / 16 < pages_of size = omega (arith, same, told.0) in
            let here : is_between from to (second_page size place width) ≡ true = ap
            (is_between from to) (second_some ((place + width - 1) / 16) (place / 16)
            (pages_of size) (λ e. n (sym same ∙ e)) below)
            ∙ between_true from to ((place + width - 1) / 16) (omega (arith, same, told.1))
            (omega (arith, same, told.2)) in
            or_right (is_between from to (first_page size place))
            (is_between from to (second_page size place width)) here
      ]

  backward_first : is_between from to (first_page size place) ≡ true → is_watched size place width at count ≡ true
  backward_first is =
      let page = between_is from to (first_page size place) is in
      let here = first_is size place page.0 page.1 in
      in_range_found watches place width place (omega arith) (omega (arith, one))
      (watches_from place here.0 (omega (arith, here.1, page.2)) (omega (arith, here.1, page.3)))

  backward_second : is_between from to (second_page size place width) ≡ true
      → is_watched size place width at count ≡ true
  backward_second is =
      let page = between_is from to (second_page size place width) is in
      let here = second_by ((place + width - 1) / 16) (place / 16) (pages_of size) page.0 page.1 in
      let k : ℕ = 16 * ((place + width - 1) / 16) in
      let is_page : k / 16 ≡ (place + width - 1) / 16 = omega arith in
      let low : place ≤ k = omega (arith, here.0) in
      let high : k < place + width = omega (arith, one) in
      let there : k < size = omega (arith, here.1) in
      in_range_found watches place width k low high (watches_from k there
      (omega (arith, is_page, here.2, page.2)) (omega (arith, is_page, here.2, page.3)))

  pub watched_is : is_watched size place width at count ≡ both_pages
  watched_is =
      let back : both_pages ≡ true → is_watched size place width at count ≡ true =
      λ is. elim (or_cases (is_between from to (first_page size place))
      (is_between from to (second_page size place width)) is)
      [ inl a ↦ backward_first a | inr b ↦ backward_second b ] in
      same_tests (is_watched size place width at count) both_pages forward back

-- the page before one
pub at_before : (o : Option ℕ) (page next : ℕ) → next ≡ suc page → is_at o page ≡ is_before o next
at_before None page next same = refl
at_before (Some other) page next same = elim (eqb_tells other page) [
  | inl e ↦ rw (e.0, eq-eqb (suc other) next (omega (arith, e.1, same))) refl
  | inr n ↦ rw (n.0, ne_eqb (suc other) next (λ s. n.1 (omega (arith, s, same)))) refl
]

-- a cell watches some pages exactly where it stands on the list of one of them, or on that of the page before them and
-- reaches one of them
module _ (size first end place width : ℕ) (few : width ≤ 4) (one : 0 < width) where
  abbrev stands_there : Bool
  stands_there = is_between first end (first_page size place)

  abbrev stands_before : Bool
  stands_before = is_before (first_page size place) first

  reaching_by : reaches size first end place width ≡ true → (stands_there || stands_before) ≡ true
  reaching_by is =
      let page = between_is first end (second_page size place width) is in
      let here = second_by ((place + width - 1) / 16) (place / 16) (pages_of size) page.0 page.1 in
      let next : (place + width - 1) / 16 ≡ suc (place / 16) = omega (arith, here.0, few, one) in
      let below : place < size = omega (arith, here.1, next) in
      let at = first_some size place below in
      elim (cases_lt (place / 16) first) [
        | inl less ↦
            let same : suc (place / 16) ≡ first = omega (arith, less, next, here.2, page.2) in
            let before : stands_before ≡ true =
            ap (λ o. is_before o first) at ∙ eq-eqb (suc (place / 16)) first same in
            or_right stands_there stands_before before
        | inr more ↦
            let there : stands_there ≡ true = ap (is_between first end) at
            ∙ between_true first end (place / 16) more (omega (arith, next, here.2, page.3)) in
            or_left stands_there stands_before there
      ]

  pub watches_by : (stands_there || (stands_before && reaches size first end place width))
      ≡ watches_between size first end place width
  watches_by = joined stands_there stands_before (reaches size first end place width) reaching_by
    where
      joined : (a b c : Bool) → (c ≡ true → (a || b) ≡ true) → (a || (b && c)) ≡ (a || c)
      joined true b c by = refl
      joined false true c by = refl
      joined false false true by = by refl
      joined false false false by = refl

-- an empty write is watched by no cell
pub watched_none : (size place width at : ℕ) → is_watched size place width at 0 ≡ false
watched_none size place width at = same_tests (is_watched size place width at 0) false
    (λ is.
    let found = found_in_range (λ k. nat_lt k size && touches at 0 (page_of k)) place width is in
    let both = and_parts (nat_lt found.0 size) (touches at 0 (page_of found.0)) found.3 in
    let some : 0 < 0 = ltb-true 0 0 (and_parts (nat_lt 0 0)
    (nat_le (page_of at) (page_of found.0) && nat_le (page_of found.0) (page_of (at + 0 - 1))) both.1).0 in
    absurd (omega (arith, some))) (λ is. absurd (false≢true is))

-- a cell whose first byte stands on one of these pages watches it
pub watched_first : (size first end place width : ℕ) → place < size → first ≤ place / 16 → place / 16 < end
    → watches_between size first end place width ≡ true
watched_first size first end place width within above below =
    or_left (is_between first end (first_page size place)) (reaches size first end place width)
    (ap (λ b. is_between first end (if b then Some (page_of place) else None)) (lt-ltb place size within)
    ∙ and_from (nat_le first (page_of place)) (nat_lt (page_of place) end) (le-leb first (page_of place) above)
    (lt-ltb (page_of place) end below))
