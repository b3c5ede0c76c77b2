-- Watches of which a large write is told stand for those of which it is marked.
use Rattle.std.proofs.Common.{◌≡◌, ◌⊎◌, inl, inr, ℕ, ◌+◌, ◌-◌, ◌/◌, ◌<◌, ◌≤◌, ◌&&◌, Bool, true, false, ◌||◌}
use Rattle.std.proofs.Common.{Option, None, Some, List, [], ◌∷◌, length}
use Rattle.std.proofs.Common.{get_or, min, max, slice_set}
use Rattle.std.proofs.Common.{slice_index, refl, sym, ◌∙◌, ap, ap₂, arith}
use Rattle.std.specs.List.{list_any, range_with_len}
use Rattle.std.proofs.lemmas.List.{get_or-map, get_or_default, length-map, length-set, same_lists}
use Rattle.std.proofs.lemmas.List.FromFn.{length-range_with_len, get_or-range_with_len}
use Rattle.ra_memref.specs.declared.told_bytes.ToldBytes.{ToldBytes}
use Rattle.ra_memref.specs.LateWatches.{AreLate, Joins, marked_with, watches_told, with_told}
use Rattle.ra_memref.specs.Marks.{is_watched, page_of, touches}
use Rattle.ra_memref.proofs.Pages.{same_tests}
use Rattle.std.specs.Prelude.{nat_le, nat_lt}
use Rattle.std.proofs.lemmas.Bool.{false≢true, cases_lt, and_from, and_parts, le-leb, leb-true, lt-ltb}
use Rattle.std.proofs.lemmas.Bool.{or_cases, or_left, or_right}
use Rattle.ra_memref.specs.Watches.{MarksWatchers, WatchesSeen}

-- there are as many marks
pub length-marked_with : (told : Option ToldBytes) (w : WatchesSeen) → length (marked_with told w) ≡ length w.marked
length-marked_with None w = refl
length-marked_with (Some bytes) w = length-map (range_with_len 0 (length w.marked)) _
    ∙ length-range_with_len 0 (length w.marked)

at_place : (n k : ℕ) → k < n → get_or (range_with_len 0 n) k 0 ≡ k
at_place n k below = get_or-range_with_len 0 n k 0 below ∙ omega arith

-- a cell is marked where it was, or watches a page of what is told
pub mark_with : (told : Option ToldBytes) (w : WatchesSeen) (k : ℕ) → k < length w.marked
    → get_or (marked_with told w) k true ≡ (get_or w.marked k true
    || watches_told told w.size (slice_index w.places k) (slice_index w.widths k))
mark_with None w k below = or_none (get_or w.marked k true)
  where
    or_none : (b : Bool) → b ≡ (b || false)
    or_none true = refl
    or_none false = refl
mark_with (Some bytes) w k below =
    let f = λ (j : ℕ). get_or w.marked j true || watches_told (Some bytes) w.size (slice_index w.places j)
    (slice_index w.widths j) in
    get_or-map f (range_with_len 0 (length w.marked)) k 0 true
    (omega (arith, below, length-range_with_len 0 (length w.marked)))
    ∙ ap f (at_place (length w.marked) k below)

-- watches of which these bytes were marked are those of which they are told
pub told_now : (bytes : ToldBytes) (old new : WatchesSeen) → length old.marked ≡ length old.places
    → MarksWatchers old new bytes.at bytes.count → new ≡ with_told (Some bytes) old
told_now bytes old new many marks = marks.rest
    ∙ ap (λ (ms : List Bool). record old { marked = ms })
    (same_lists new.marked (marked_with (Some bytes) old) (marks.long ∙ sym (length-marked_with (Some bytes) old))
    (λ k d below.
    let within : k < length old.marked = omega (arith, below, marks.long) in
    get_or_default new.marked k d true below
    ∙ marks.marked k (omega (arith, within, many)) ∙ sym (mark_with (Some bytes) old k within)
    ∙ get_or_default (marked_with (Some bytes) old) k true d
    (omega (arith, within, length-marked_with (Some bytes) old))))

or_joined : (a b c : Bool) → (a || (b || c)) ≡ ((a || b) || c)
or_joined true b c = refl
or_joined false b c = refl

-- a write is told where what was told is joined with it
pub told_joined : (told : Option ToldBytes) (w : WatchesSeen) (at count : ℕ) (bytes : ToldBytes)
    → length w.marked ≡ length w.places → Joins told at count bytes
    → MarksWatchers (with_told told w) (with_told (Some bytes) w) at count
told_joined told w at count bytes many joins = record {
  rest = refl;
  long = length-marked_with (Some bytes) w ∙ sym (length-marked_with told w);
  marked = λ k below.
      let within : k < length w.marked = omega (arith, below, many) in
      mark_with (Some bytes) w k within
      ∙ ap (λ b. get_or w.marked k true || b) (joins.both w.size (slice_index w.places k) (slice_index w.widths k))
      ∙ or_joined (get_or w.marked k true) (watches_told told w.size (slice_index w.places k) (slice_index w.widths k))
      (is_watched w.size (slice_index w.places k) (slice_index w.widths k) at count)
      ∙ ap (λ b. b || is_watched w.size (slice_index w.places k) (slice_index w.widths k) at count)
      (sym (mark_with told w k within));
}

-- watches of which nothing is told any more have a mark for each cell still
pub none_told : (told : Option ToldBytes) (w now : WatchesSeen) → length w.marked ≡ length w.places
    → now ≡ with_told told w → AreLate None now
none_told told w now many is = record {
  many = ap (λ (v : WatchesSeen). length v.marked) is ∙ length-marked_with told w ∙ many
      ∙ sym (ap (λ (v : WatchesSeen). length v.places) is);
  within = tt;
  small = tt;
}

pub none_more : (w now : WatchesSeen) → length w.marked ≡ length w.places → now ≡ record w { marked = now.marked }
    → length now.marked ≡ length w.marked → AreLate None now
none_more w now many rest long = record {
  many = long ∙ many ∙ sym (ap (λ (v : WatchesSeen). length v.places) rest);
  within = tt;
  small = tt;
}

-- bytes that begin where the first of two rows of bytes begins, and end where the last one ends, which touch
module _ (at count one many first all : ℕ) (some : 0 < count) (some_too : 0 < many) (close : one ≤ at + count)
    (close_too : at ≤ one + many) (low : first ≤ at) (low_too : first ≤ one)
    (lowest : (first ≡ at) ⊎ (first ≡ one)) (high : at + count ≤ first + all) (high_too : one + many ≤ first + all)
    (highest : (first + all ≡ at + count) ⊎ (first + all ≡ one + many)) (page : ℕ) where
  spread : (at count : ℕ) → 0 < count → touches at count page ≡ true
      → (at / 16 ≤ page) × (page ≤ (at + count - 1) / 16)
  spread at count some is =
      let inner = and_parts (nat_lt 0 count) (nat_le (page_of at) page && nat_le page (page_of (at + count - 1))) is in
      let both = and_parts (nat_le (page_of at) page) (nat_le page (page_of (at + count - 1))) inner.1 in
      (leb-true (page_of at) page both.0, leb-true page (page_of (at + count - 1)) both.1)

  within : (at count : ℕ) → 0 < count → at / 16 ≤ page → page ≤ (at + count - 1) / 16 → touches at count page ≡ true
  within at count some above below =
      and_from (nat_lt 0 count) (nat_le (page_of at) page && nat_le page (page_of (at + count - 1)))
      (lt-ltb 0 count some)
      (and_from (nat_le (page_of at) page) (nat_le page (page_of (at + count - 1))) (le-leb (page_of at) page above)
      (le-leb page (page_of (at + count - 1)) below))

  all_some : 0 < all
  all_some = omega (arith, some, low, high)

  pub touches_both : touches first all page ≡ (touches one many page || touches at count page)
  touches_both = same_tests (touches first all page) (touches one many page || touches at count page) apart joined
    where
      apart : touches first all page ≡ true → (touches one many page || touches at count page) ≡ true
      apart is =
          let both = spread first all all_some is in
          by_test both (touches one many page) refl
        where
          begins : first / 16 ≤ page → page < one / 16 → at / 16 ≤ page
          begins above below = elim lowest [
            | inl e ↦ omega (arith, above, e)
            | inr e ↦ absurd (omega (arith, above, below, e))
          ]

          ends : page ≤ (first + all - 1) / 16 → (one + many - 1) / 16 < page → page ≤ (at + count - 1) / 16
          ends below above = elim highest [
            | inl e ↦ omega (arith, below, e)
            | inr e ↦ absurd (omega (arith, above, below, e))
          ]

          by_test : (first / 16 ≤ page) × (page ≤ (first + all - 1) / 16) → (b : Bool) → touches one many page ≡ b
              → (touches one many page || touches at count page) ≡ true
          by_test both true e = or_left (touches one many page) (touches at count page) e
          by_test both false e = or_right (touches one many page) (touches at count page)
              (elim (cases_lt page (one / 16)) [
                | inl low ↦ within at count some (begins both.0 low) (omega (arith, low, close, some))
                | inr low ↦ elim (cases_lt ((one + many - 1) / 16) page) [
                  | inl high ↦ within at count some (omega (arith, high, close_too, some_too)) (ends both.1 high)
                  | inr high ↦ absurd (false≢true (sym e ∙ within one many some_too low high))
                ]
              ])

      joined : (touches one many page || touches at count page) ≡ true → touches first all page ≡ true
      joined is = elim (or_cases (touches one many page) (touches at count page) is) [
        | inl a ↦ within first all all_some (omega (arith, (spread one many some_too a).0, low_too))
            (omega (arith, (spread one many some_too a).1, high_too, some_too))
        | inr b ↦ within first all all_some (omega (arith, (spread at count some b).0, low))
            (omega (arith, (spread at count some b).1, high, some))
      ]

or_crossed : (a b c d : Bool) → ((a || b) || (c || d)) ≡ ((a || c) || (b || d))
or_crossed true b c d = refl
or_crossed false true true d = refl
or_crossed false true false d = refl
or_crossed false false c d = refl

and_over : (a b c : Bool) → (a && (b || c)) ≡ ((a && b) || (a && c))
and_over true b c = refl
and_over false b c = refl

any_of_both : (f g h : ℕ → Bool) → ((k : ℕ) → f k ≡ (g k || h k)) → (ks : List ℕ)
    → list_any f ks ≡ (list_any g ks || list_any h ks)
any_of_both f g h each [] = refl
any_of_both f g h each (k ∷ ks) = ap₂ (λ a b. a || b) (each k) (any_of_both f g h each ks)
    ∙ or_crossed (g k) (h k) (list_any g ks) (list_any h ks)

-- so they join what is told and a write
pub joins_both : (bytes : ToldBytes) (at count first all : ℕ) → 0 < count → (bytes.count ≡ 0 → ⊥)
    → bytes.at ≤ at + count → at ≤ bytes.at + bytes.count → first ≡ min at bytes.at
    → first + all ≡ max (at + count) (bytes.at + bytes.count)
    → Joins (Some bytes) at count (record { at = first; count = all })
joins_both bytes at count first all some some_too close close_too begins ends = record {
  both = λ size place width.
      any_of_both (λ k. nat_lt k size && touches first all (page_of k))
      (λ k. nat_lt k size && touches bytes.at bytes.count (page_of k))
      (λ k. nat_lt k size && touches at count (page_of k))
      (λ k. ap (λ b. nat_lt k size && b) (touches_both at count bytes.at bytes.count first all some
      (omega (arith, some_too)) close close_too (omega (arith, begins)) (omega (arith, begins)) lowest
      (omega (arith, ends)) (omega (arith, ends)) highest (page_of k))
      ∙ and_over (nat_lt k size) (touches bytes.at bytes.count (page_of k)) (touches at count (page_of k)))
      (range_with_len place width);
  within = λ size told fits. omega (arith, told, fits, ends);
}
  where
    lowest : (first ≡ at) ⊎ (first ≡ bytes.at)
    lowest = elim (cases_lt at bytes.at) [
      | inl less ↦ inl (omega (arith, less, begins))
      | inr more ↦ inr (omega (arith, more, begins))
    ]

    highest : (first + all ≡ at + count) ⊎ (first + all ≡ bytes.at + bytes.count)
    highest = elim (cases_lt (at + count) (bytes.at + bytes.count)) [
      | inl less ↦ inr (omega (arith, less, ends))
      | inr more ↦ inl (omega (arith, more, ends))
    ]

-- a cell that is settled leaves a mark for each
pub none_settled : (w now : WatchesSeen) (cell place : ℕ) → length w.marked ≡ length w.places
    → now ≡ record w { places = slice_set w.places cell place; marked = slice_set w.marked cell false }
    → AreLate None now
none_settled w now cell place many is = record {
  many = ap (λ (v : WatchesSeen). length v.marked) is ∙ length-set w.marked cell false ∙ many
      ∙ sym (length-set w.places cell place) ∙ sym (ap (λ (v : WatchesSeen). length v.places) is);
  within = tt;
  small = tt;
}
