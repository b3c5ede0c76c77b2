-- A walk along the list of a page, from one node to the next, marks the cells on it.
use Rattle.std.proofs.Common.{◌≡◌, ℕ, ◌<◌, ◌==◌, inl, inr, Bool, true, false, if◌then◌else◌, ◌&&◌, ◌||◌, eqb, Option}
use Rattle.std.proofs.Common.{None, Some, List, [], ◌∷◌, length, slice_get, get_or, set, refl, sym, ◌∙◌, ap, arith}
use Rattle.std.proofs.Common.{subst}
use Rattle.std.specs.List.{IsDistinct, AllByRecursion}
use Rattle.std.proofs.Math.Bool.{or-false, or-true}
use Rattle.std.proofs.lemmas.Bool.{eq-eqb, ne_eqb, false≢true}
use Rattle.std.proofs.lemmas.Bool.Decides.{eqb_tells}
use Rattle.std.proofs.lemmas.List.{get_or-set_same, get_or-set_other}
use Rattle.ra_links.specs.Rows.{Rows, IsOnce, holds, holder_of, row_at, after_in, next_of}
use Rattle.ra_links.proofs.Members.{In, Once, holds_In}
use Rattle.ra_links.proofs.Lookups.{next_some}
use Rattle.ra_memref.specs.Marking.{is_at}
use Rattle.ra_memref.proofs.Pages.{holds_at}

-- what is left of a walk: the list from a node on
abbrev pub rest_from : ℕ → List ℕ → List ℕ
rest_from node [] = []
rest_from node (x ∷ row) = if x == node then x ∷ row else rest_from node row

abbrev pub rest_of : Option ℕ → List ℕ → List ℕ
rest_of None row = []
rest_of (Some node) row = rest_from node row

differ_Out : (x : ℕ) (row : List ℕ) → AllByRecursion (λ y. eqb x y ≡ false) row → In x row → ⊥
differ_Out x [] all h = absurd h
differ_Out x (y ∷ row) all h = elim h [
  | inl e ↦ false≢true (sym all.0 ∙ eq-eqb x y e)
  | inr r ↦ differ_Out x row all.1 r
]

pub Once_distinct : (row : List ℕ) → IsDistinct eqb row → Once row
unfolding IsDistinct
Once_distinct [] d = tt
Once_distinct (x ∷ row) d = (differ_Out x row d.0, Once_distinct row d.1)

pub first_rest : (row : List ℕ) → rest_of (slice_get row 0) row ≡ row
first_rest [] = refl
first_rest (x ∷ row) = rw (eq-eqb x x refl) refl

pub first_In : (row : List ℕ) (m : ℕ) → slice_get row 0 ≡ Some m → In m row
first_In [] m is = cc
first_In (x ∷ row) m is = inl (sym (some_same is))
  where
    some_same : {a b : ℕ} → Some a ≡ Some b → a ≡ b
    some_same {a} {b} e = ap (λ o. of a o) e
      where
        of : ℕ → Option ℕ → ℕ
        of d None = d
        of d (Some n) = n

pub after_In : (node : ℕ) (row : List ℕ) (m : ℕ) → after_in node row ≡ Some m → In m row
after_In node [] m is = cc
after_In node (x ∷ row) m is = elim (eqb_tells x node) [
  | inl e ↦ inr (first_In row m (rw e.0 at is))
  | inr n ↦ inr (after_In node row m (rw n.0 at is))
]

-- past another node the rest is the same
rest_past : (x : ℕ) (row : List ℕ) (next : Option ℕ) → ((m : ℕ) → next ≡ Some m → In m row)
    → (In x row → ⊥) → rest_of next (x ∷ row) ≡ rest_of next row
rest_past x row None there out = refl
rest_past x row (Some m) there out =
    rw (ne_eqb x m (λ same. out (subst (λ n. In n row) (sym same) (there m refl)))) refl

pub rest_step : (node : ℕ) (row : List ℕ) → Once row → In node row → rest_from node row
    ≡ node ∷ rest_of (after_in node row) row
rest_step node [] once there = absurd there
rest_step node (x ∷ row) once there = elim (eqb_tells x node) [
  | inl e ↦ rw (e.0, rest_past x row (slice_get row 0) (first_In row) once.0, first_rest row) (ap (λ n. n ∷ row) e.1)
  | inr n ↦
      let later : In node row = elim there [ inl same ↦ absurd (n.1 (sym same)) | inr r ↦ r ] in
      rw (n.0, rest_past x row (after_in node row) (after_In node row) once.0) (rest_step node row once.1 later)
]

-- how far a walk came that marks the cells of which a test tells: what is marked, and what is left, is what was marked
-- and the whole list
pub record IsWalking (pages : Rows) (page : ℕ) (is_wanted : ℕ → Bool) (old now : List Bool)
    (next : Option ℕ) : Type 0 where
  pub once : IsOnce pages
  pub there : (m : ℕ) → next ≡ Some m → In m (row_at pages.lists page)
  pub long : length now ≡ length old
  pub marked : (k : ℕ) → k < length old
      → (get_or now k true || (holds k (rest_of next (row_at pages.lists page)) && is_wanted k))
      ≡ (get_or old k true || (holds k (row_at pages.lists page) && is_wanted k))

pub walking_none : (pages : Rows) (page : ℕ) (is_wanted : ℕ → Bool) (old : List Bool) (next : Option ℕ) → IsOnce pages
    → next ≡ slice_get (row_at pages.lists page) 0 → IsWalking pages page is_wanted old old next
walking_none pages page is_wanted old next once is = record {
  once = once;
  there = λ m some. first_In (row_at pages.lists page) m (sym is ∙ some);
  long = refl;
  marked = λ k below. ap (λ rest. get_or old k true || (holds k rest && is_wanted k))
      (ap (λ o. rest_of o (row_at pages.lists page)) is ∙ first_rest (row_at pages.lists page));
}

module _ {pages : Rows} {page : ℕ} {is_wanted : ℕ → Bool} {old now : List Bool} where
  -- a node that a walk came to is a node
  pub node_there : (node : ℕ) → IsWalking pages page is_wanted old now (Some node) → node < pages.nodes
  node_there node walking =
      walking.once.in_range page node (holds_In node (row_at pages.lists page) (walking.there node refl))

  -- at its end each cell on the list of which the test tells is marked
  pub walked : page < length pages.lists → IsWalking pages page is_wanted old now None → (k : ℕ) → k < length old
      → get_or now k true ≡ (get_or old k true || (is_at (holder_of pages.lists k) page && is_wanted k))
  walked within walking k below = sym (or-false (get_or now k true)) ∙ walking.marked k below
      ∙ ap (λ b. get_or old k true || (b && is_wanted k)) (holds_at pages walking.once page within k)

  module _ (node : ℕ) (next : Option ℕ) (below : page < length pages.lists)
      (walking : IsWalking pages page is_wanted old now (Some node)) (is : next ≡ next_of pages.lists node) where
    abbrev row : List ℕ
    row = row_at pages.lists page

    here : In node row
    here = walking.there node refl

    once_row : Once row
    once_row = Once_distinct row (walking.once.one_place page)

    is_after : next ≡ after_in node row
    is_after = is ∙ next_some pages.lists node page below here (λ k small there. walking.once.one_list
        k page node (holds_In node (row_at pages.lists k) there) (holds_In node row here))

    rest : rest_from node row ≡ node ∷ rest_of next row
    rest = rest_step node row once_row here ∙ ap (λ o. node ∷ rest_of o row) (sym is_after)

    pub shorter : length (rest_of next row) < length (rest_from node row)
    shorter = rw rest (omega arith)

    -- one node more, which is marked where the test tells of it
    pub walking_more : (marks : List Bool) → length marks ≡ length now → ((k : ℕ) → k < length old
        → get_or marks k true ≡ (get_or now k true || (node == k && is_wanted k)))
        → IsWalking pages page is_wanted old marks next
    walking_more marks long one = record {
      once = walking.once;
      there = λ m some. after_In node row m (sym is_after ∙ some);
      long = long ∙ walking.long;
      marked = λ k small. ap (λ b. b || (holds k (rest_of next row) && is_wanted k)) (one k small)
          ∙ joined (get_or now k true) (node == k) (holds k (rest_of next row)) (is_wanted k)
          ∙ ap (λ r. get_or now k true || (holds k r && is_wanted k)) (sym rest)
          ∙ walking.marked k small;
    }
      where
        joined : (a b c w : Bool) → ((a || (b && w)) || (c && w)) ≡ (a || ((b || c) && w))
        joined true b c w = refl
        joined false true c true = refl
        joined false true true false = refl
        joined false true false false = refl
        joined false false c w = refl

-- a wanted cell is marked
pub marked_one : (now : List Bool) (node : ℕ) (is_wanted : ℕ → Bool) → node < length now → is_wanted node ≡ true
    → (k : ℕ) → get_or (set now node true) k true ≡ (get_or now k true || (node == k && is_wanted k))
marked_one now node is_wanted below wanted k = elim (eqb_tells node k) [
  | inl e ↦
      let here : get_or (set now node true) k true ≡ true = ap (λ i. get_or (set now node true) i true) (sym e.1)
      ∙ get_or-set_same now node true true below in
      let wanted_too : is_wanted k ≡ true = ap is_wanted (sym e.1) ∙ wanted in
      rw (e.0, wanted_too) (here ∙ sym (or-true (get_or now k true)))
  | inr n ↦ rw n.0 (get_or-set_other now node k true true (λ e. n.1 (sym e)) ∙ sym (or-false (get_or now k true)))
]

-- and another one is passed
pub passed_one : (now : List Bool) (node : ℕ) (is_wanted : ℕ → Bool) → is_wanted node ≡ false
    → (k : ℕ) → get_or now k true ≡ (get_or now k true || (node == k && is_wanted k))
passed_one now node is_wanted unwanted k = elim (eqb_tells node k) [
  | inl e ↦
      let unwanted_too : is_wanted k ≡ false = ap is_wanted (sym e.1) ∙ unwanted in
      rw (e.0, unwanted_too) (sym (or-false (get_or now k true)))
  | inr n ↦ rw n.0 (sym (or-false (get_or now k true)))
]
