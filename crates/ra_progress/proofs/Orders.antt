-- An order of names, and how a name splits it.
use Rattle.std.proofs.Common.{◌≡◌, ℕ, ◌<◌, ◌≤◌, inl, inr, Bool, true, false, List, refl, sym, ◌∙◌, subst, arith, length}
use Rattle.std.proofs.Common.{slice_index, Option, None, Some, option_to_list}
use Rattle.std.proofs.lemmas.Bool.{cases_lt}
use Rattle.std.proofs.lemmas.List.Sorted.{sorted_far, ranks_by, All-permutation, length_permutation}
use Rattle.std.proofs.lemmas.List.FromFn.{length-range_with_len, get_or-range_with_len}
use Rattle.std.specs.List.{range_with_len}
use Rattle.std.specs.FinMap.{slice_cmp-IsAntisymmetric, nat_cmp-IsAntisymmetric}
use Rattle.std.specs.Ordering.{nat_cmp, ordering_then, ordering_reverse, is_lt}
use Rattle.std.specs.declared.cmp.Ordering.{Ordering}
use Rattle.std.specs.declared.cmp.Ordering.TheVariants.{Less, Equal, Greater}
use Rattle.std.specs.Cmp.{IsTotalOrder, IsStrictWeakOrder, nat_cmp_total, then_total, on_total}
use Rattle.std.specs.Cmp.Lexicographic.{slice_cmp, lists_total}
use Rattle.ra_progress.specs.Contents.{Name}
use Rattle.ra_progress.specs.Names.{IsOrder, IsRange, named_by, place_cmp}

-- the name is before the other
abbrev pub before : Name → Name → Bool
before a b = is_lt (slice_cmp nat_cmp a b)

pub names_ranked : IsStrictWeakOrder before
names_ranked = ranks_by (lists_total nat_cmp_total) (λ n. n)

pub places_total : (names : List Name) → IsTotalOrder (place_cmp names)
places_total names = then_total (on_total (named_by names) (lists_total nat_cmp_total)) nat_cmp_total

first_decides : (r s : Ordering) → is_lt (ordering_then r s) ≡ false → is_lt r ≡ false
first_decides Less s not = not
first_decides Equal s not = refl
first_decides Greater s not = refl

module _ (names : List Name) (order : List ℕ) (is : IsOrder names order) where
  abbrev pub name_in : ℕ → Name
  name_in k = named_by names (slice_index order k)

  -- no later place has a name before that of an earlier one
  pub rises : (i k : ℕ) → i ≤ k → k < length order → before (name_in k) (name_in i) ≡ false
  rises i k up within =
      first_decides (slice_cmp nat_cmp (name_in k) (name_in i)) _
      (sorted_far (λ x y. is_lt (place_cmp names x y))
      (ranks_by (places_total names) (λ n. n)) order is.rising i k 0 up within)

  -- each number of the order is one of the names
  pub numbers_within : (k : ℕ) → k < length order → slice_index order k < length names
  numbers_within k within =
      All-permutation (λ n. n < length names) (range_with_len 0 (length names)) order is.each
      (λ i d below. let small : i < length names =
      omega (arith, length-range_with_len 0 (length names)) in
      rw (get_or-range_with_len 0 (length names) i d small) (omega arith))
      k 0 within

  module _ (name : Name) where
    -- what the middle says of the places before it, and of those behind it
    pub all_before : (middle : ℕ) → middle < length order → before (name_in middle) name ≡ true
        → (k : ℕ) → k ≤ middle → before (name_in k) name ≡ true
    all_before middle within less k up =
        elim (before (name_in k) name) as (λ b. before (name_in k) name ≡ b → b ≡ true) [
          | true ↦ λ e. refl
          | false ↦ λ e. absurd (cc
              (less, names_ranked.chain (name_in middle) (name_in k) name (rises k middle up within) e))
        ] refl

    pub none_before : (middle : ℕ) → middle < length order → before (name_in middle) name ≡ false
        → (k : ℕ) → middle ≤ k → k < length order → before (name_in k) name ≡ false
    none_before middle within not k up below =
        names_ranked.chain (name_in k) (name_in middle) name (rises middle k up below) not

    pub all_behind : (middle : ℕ) → middle < length order → before name (name_in middle) ≡ true
        → (k : ℕ) → middle ≤ k → k < length order → before name (name_in k) ≡ true
    all_behind middle within less k up below =
        elim (before name (name_in k)) as (λ b. before name (name_in k) ≡ b → b ≡ true) [
          | true ↦ λ e. refl
          | false ↦ λ e. absurd (cc
              (less, names_ranked.chain name (name_in k) (name_in middle) e (rises middle k up below)))
        ] refl

    pub none_behind : (middle : ℕ) → middle < length order → before name (name_in middle) ≡ false
        → (k : ℕ) → k ≤ middle → before name (name_in k) ≡ false
    none_behind middle within not k up =
        names_ranked.chain name (name_in middle) (name_in k) not (rises k middle up within)

-- two names of which neither is before the other are one
neither : (r s : Ordering) → r ≡ ordering_reverse s → is_lt r ≡ false → is_lt s ≡ false → r ≡ Equal
neither Less s turned r-not s-not = absurd (cc r-not)
neither Equal s turned r-not s-not = refl
neither Greater Less turned r-not s-not = absurd (cc s-not)
neither Greater Equal turned r-not s-not = turned
neither Greater Greater turned r-not s-not = absurd (cc turned)

pub one_name : (a b : Name) → before a b ≡ false → before b a ≡ false → a ≡ b
one_name a b left right =
    slice_cmp-IsAntisymmetric nat_cmp-IsAntisymmetric a b
    (neither (slice_cmp nat_cmp a b) (slice_cmp nat_cmp b a) ((lists_total nat_cmp_total).antisymm a b) left right)

pub not_before_itself : (a : Name) → before a a ≡ false
not_before_itself a = elim (before a a) as (λ b. before a a ≡ b → b ≡ false) [
  | true ↦ λ e. sym (sym (names_ranked.one_way a a e) ∙ e)
  | false ↦ λ e. refl
] refl

module _ (names : List Name) (order : List ℕ) (name : Name) (low high : ℕ) where
  -- between the first place that is not before the name and the first that is behind it stand the places of the name
  pub range_between : low ≤ length order → high ≤ length order
      → ((k : ℕ) → k < low → before (named_by names (slice_index order k)) name ≡ true)
      → ((k : ℕ) → low ≤ k → k < length order → before (named_by names (slice_index order k)) name ≡ false)
      → ((k : ℕ) → k < high → before name (named_by names (slice_index order k)) ≡ false)
      → ((k : ℕ) → high ≤ k → k < length order → before name (named_by names (slice_index order k)) ≡ true)
      → IsRange names order name low high
  range_between low-most high-most below from under behind = record {
    within = elim (cases_lt high low) [
      | inl crossed ↦ absurd (cc (
        names_ranked.one_way (named_by names (slice_index order high)) name (below high crossed),
        behind high (omega arith) (omega arith),
      ))
      | inr fine ↦ fine
    ];
    most = high-most;
    only = λ k within. (
      λ same. (
        elim (cases_lt k low) [
          | inl under-low ↦ absurd (cc
              (below k under-low, subst (λ n. before n name ≡ false) (sym same) (not_before_itself name)))
          | inr fine ↦ fine
        ],
        elim (cases_lt k high) [
          | inl fine ↦ fine
          | inr over ↦ absurd (cc
              (behind k over within, subst (λ n. before name n ≡ false) (sym same) (not_before_itself name)))
        ],
      ),
      λ between. one_name (named_by names (slice_index order k)) name (from k between.0 within) (under k between.1),
    );
  }

-- an order is as long as its names
pub order_length : (names : List Name) (order : List ℕ) → IsOrder names order → length order ≡ length names
order_length names order is = length_permutation (range_with_len 0 (length names)) order is.each
    ∙ length-range_with_len 0 (length names)

pub at_most_one : {A : Type 0} (o : Option A) → length (option_to_list o) ≤ 1
at_most_one None = omega arith
at_most_one (Some x) = omega arith
