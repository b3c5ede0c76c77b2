-- What conditions owe that counted at a frame: by bits as by the hits before it.
use Rattle.std.proofs.Common.{◌≡◌, ◌⊎◌, inl, inr, ℕ, suc, ◌+◌, ◌-◌, ◌<◌, ◌≤◌, ◌==◌, not, min, Bool, true, false, cond}
use Rattle.std.proofs.Common.{if◌then◌else◌, List, [], ◌∷◌, ◌++◌, length, map, get_or, slice_index, slice_index_or}
use Rattle.std.proofs.Common.{refl, sym, ap, ap₂, ◌∙◌, arith, length-append}
use Rattle.std.specs.List.{concat, flat_map, range_with_len}
use Rattle.std.proofs.lemmas.Bool.{cases_lt, eq-eqb, eqb-true}
use Rattle.std.proofs.lemmas.List.{get_or_append_left, get_or-append-add, length-map, map-append}
use Rattle.std.proofs.lemmas.List.FromFn.{fill_by_all, get_or-map-range_with_len, length-map-range_with_len}
use Rattle.ra_schedule.specs.Counted.{MemberCounted, CountsFit, bits_in, counted, counted_member, counted_rows}
use Rattle.ra_schedule.specs.Counted.{keeps_by, owed_by, owed_member_by, owed_rows_by, owed_values_by}
use Rattle.ra_schedule.specs.Groups.{paid, plus}
use Rattle.ra_schedule.specs.Owing.{owed_member, owed_tests, owed_values}
use Rattle.ra_schedule.proofs.Resting.Owed.{owed, paid_nothing}
use Rattle.ra_member.specs.Members.{HasShape, MemberContents, MemberKept, saved_hits, saved_numbers}
use Rattle.ra_value.specs.Steps.{ValueKept}

-- hits that differ from others where a condition counted
abbrev pub apart : List Bool → List ℕ → List ℕ
apart counts hits =
    map
    (λ j. if slice_index_or counts j false then suc (slice_index hits j) else slice_index hits j)
    (range_with_len 0 (length hits))

-- a number is not the one after it
not_next : (h : ℕ) → (h == suc h) ≡ false
not_next h = by_test (h == suc h) refl
  where
    by_test : (b : Bool) → (h == suc h) ≡ b → (h == suc h) ≡ false
    by_test true e = absurd (omega (arith, eqb-true h (suc h) e))
    by_test false e = e

pub length-owed_by : (n : ℕ) (counts : List Bool) (hits : List ℕ) → length (owed_by n counts hits) ≡ length hits
length-owed_by n counts hits =
    length-map-range_with_len (λ j. if slice_index_or counts j false
    then plus n (slice_index hits j) else slice_index hits j) 0 (length hits)

pub length-apart : (counts : List Bool) (hits : List ℕ) → length (apart counts hits) ≡ length hits
length-apart counts hits =
    length-map-range_with_len (λ j. if slice_index_or counts j false then suc (slice_index hits j)
    else slice_index hits j) 0 (length hits)

module _ (n : ℕ) (counts : List Bool) (hits : List ℕ) (j : ℕ) (l : j < length hits) where
  pub owed_by_at : slice_index (owed_by n counts hits) j
      ≡ (if slice_index_or counts j false then plus n (slice_index hits j) else slice_index hits j)
  owed_by_at =
      get_or-map-range_with_len (λ k. if slice_index_or counts k false then plus n
      (slice_index hits k) else slice_index hits k) 0 (length hits) j j 0 l (omega arith)

  apart_at : slice_index (apart counts hits) j
      ≡ (if slice_index_or counts j false then suc (slice_index hits j) else slice_index hits j)
  apart_at =
      get_or-map-range_with_len (λ k. if slice_index_or counts k false then suc (slice_index hits k)
      else slice_index hits k) 0 (length hits) j j 0 l (omega arith)

by_bit : (n h : ℕ) (b : Bool) → cond b (plus n h) h ≡ owed n (cond b (suc h) h) h
by_bit n h true = sym (ap (λ b. cond b h (plus n h)) (not_next h))
by_bit n h false = sym (ap (λ b. cond b h (plus n h)) (eq-eqb h h refl))

-- what is owed by bits is owed by hits that differ there
pub owed_apart : (n : ℕ) (counts : List Bool) (hits : List ℕ) → owed_by n counts hits ≡ paid n (apart counts hits) hits
owed_apart n counts hits =
    fill_by_all (λ j. owed n (slice_index (apart counts hits) j) (slice_index hits j))
    (owed_by n counts hits) (length hits) 0
    (length-owed_by n counts hits)
    (λ j l. owed_by_at n counts hits j l ∙ by_bit n (slice_index hits j) (slice_index_or counts j false)
    ∙ ap (λ x. owed n x (slice_index hits j)) (sym (apart_at n counts hits j l)))

turned : (n before h : ℕ) (b : Bool) → cond (not b) (plus n h) h ≡ cond b h (plus n h)
turned n before h true = refl
turned n before h false = refl

-- what counted at a frame owes what the hits before it and after it say
pub counted_owes : (n : ℕ) (before hits : List ℕ) → owed_by n (counted before hits) hits ≡ paid n before hits
counted_owes n before hits =
    fill_by_all (λ j. owed n (slice_index before j) (slice_index hits j))
    (owed_by n (counted before hits) hits) (length hits) 0
    (length-owed_by n (counted before hits) hits)
    (λ j l. owed_by_at n (counted before hits) hits j l
    ∙ ap (λ b. cond b (plus n (slice_index hits j)) (slice_index hits j))
    (get_or-map-range_with_len (λ k. not (slice_index hits k == slice_index before k)) 0
    (length hits) j j false l (omega arith))
    ∙ turned n (slice_index before j) (slice_index hits j) (slice_index hits j == slice_index before j))

-- row by row
pub rows_owe : (n : ℕ) (olds news : List (List ℕ)) → owed_rows_by n (counted_rows olds news) news
    ≡ owed_tests n olds news
rows_owe n [] news = refl
rows_owe n (old ∷ olds) [] = refl
rows_owe n (old ∷ olds) (new ∷ news) = ap₂ (λ x xs. x ∷ xs) (counted_owes n old new) (rows_owe n olds news)

abbrev hit_rows : List ValueKept → List (List ℕ)
hit_rows = map (λ (v : ValueKept). v.hits)

values_owe : (n : ℕ) (olds news : List ValueKept) → owed_values_by n
    (counted_rows (hit_rows olds) (hit_rows news)) news ≡ owed_values n (hit_rows olds) news
values_owe n [] news = refl
values_owe n (old ∷ olds) [] = refl
values_owe n (old ∷ olds) (new ∷ news) =
    ap₂ (λ (x : ValueKept) xs. x ∷ xs) (λ i. record
    { hits = counted_owes n old.hits new.hits i; numbers = new.numbers })
    (values_owe n olds news)

pub counted_owes_member : (n : ℕ) (old new : MemberKept)
    → owed_member_by n (counted_member old new) new ≡ owed_member n old new
counted_owes_member n old new = (λ i. record
    { tests = rows_owe n old.tests new.tests i; values = values_owe n old.values new.values i })

-- a member that differs from another where its conditions counted
abbrev apart_rows : List (List Bool) → List (List ℕ) → List (List ℕ)
apart_rows (c ∷ counts) (row ∷ rows) = apart c row ∷ apart_rows counts rows
apart_rows _ _ = []

abbrev apart_values : List (List Bool) → List ValueKept → List ValueKept
apart_values (c ∷ counts) (v ∷ values) =
    record { hits = apart c v.hits; numbers = v.numbers } ∷ apart_values counts values
apart_values _ _ = []

abbrev pub apart_member : MemberCounted → MemberKept → MemberKept
apart_member counts kept = record
    { tests = apart_rows counts.tests kept.tests; values = apart_values counts.values kept.values }

values_apart : (n : ℕ) (counts : List (List Bool)) (values : List ValueKept)
    → owed_values_by n counts values ≡ owed_values n (hit_rows (apart_values counts values)) values
values_apart n [] values = refl
values_apart n (c ∷ counts) [] = refl
values_apart n (c ∷ counts) (v ∷ values) =
    ap₂ (λ (x : ValueKept) xs. x ∷ xs) (λ i. record
    { hits = owed_apart n c v.hits i; numbers = v.numbers }) (values_apart n counts values)

none : {A : Type 0} (x : A) (xs : List A) → x ∷ xs ≡ [] → ⊥
none x xs same = cc

heads : (x y : ℕ) (xs ys : List ℕ) → x ∷ xs ≡ y ∷ ys → x ≡ y
heads x y xs ys same = cc

tails : (x y : ℕ) (xs ys : List ℕ) → x ∷ xs ≡ y ∷ ys → xs ≡ ys
tails x y xs ys same = cc

rows_long : (counts : List (List Bool)) (rows : List (List ℕ)) → map length counts ≡ map length rows
    → map length (apart_rows counts rows) ≡ map length rows
rows_long [] [] long = refl
rows_long [] (row ∷ rows) long = absurd (none (length row) (map length rows) (sym long))
rows_long (c ∷ counts) [] long = absurd (none (length c) (map length counts) long)
rows_long (c ∷ counts) (row ∷ rows) long =
    ap₂ (λ x xs. x ∷ xs) (length-apart c row) (rows_long counts rows
    (tails (length c) (length row) (map length counts) (map length rows) long))

values_long : (counts : List (List Bool)) (values : List ValueKept) → map length counts ≡ map length (hit_rows values)
    → map length (hit_rows (apart_values counts values)) ≡ map length (hit_rows values)
values_long [] [] long = refl
values_long [] (v ∷ values) long = absurd (none (length v.hits) (map length (hit_rows values)) (sym long))
values_long (c ∷ counts) [] long = absurd (none (length c) (map length counts) long)
values_long (c ∷ counts) (v ∷ values) long =
    ap₂ (λ x xs. x ∷ xs) (length-apart c v.hits) (values_long counts values
    (tails (length c) (length v.hits) (map length counts) (map length (hit_rows values)) long))

numbers_long : (counts : List (List Bool)) (values : List ValueKept) → map length counts ≡ map length (hit_rows values)
    → map length (map (λ (v : ValueKept). v.numbers) (apart_values counts values))
    ≡ map length (map (λ (v : ValueKept). v.numbers) values)
numbers_long [] [] long = refl
numbers_long [] (v ∷ values) long = absurd (none (length v.hits) (map length (hit_rows values)) (sym long))
numbers_long (c ∷ counts) [] long = absurd (none (length c) (map length counts) long)
numbers_long (c ∷ counts) (v ∷ values) long =
    ap (λ xs. length v.numbers ∷ xs) (numbers_long counts values
    (tails (length c) (length v.hits) (map length counts) (map length (hit_rows values)) long))

-- more frames than a hit can count owe what the most that it can count do
plus_most : (n h : ℕ) → plus (min n 4294967295) h ≡ plus n h
plus_most n h = omega arith

pub owed_by_at_most : (n : ℕ) (counts : List Bool) (hits : List ℕ)
    → owed_by (min n 4294967295) counts hits ≡ owed_by n counts hits
owed_by_at_most n counts hits =
    (λ i. map (λ j. if slice_index_or counts j false then plus_most n (slice_index hits j) i
    else slice_index hits j) (range_with_len 0 (length hits)))

rows_at_most : (n : ℕ) (counts : List (List Bool)) (rows : List (List ℕ))
    → owed_rows_by (min n 4294967295) counts rows ≡ owed_rows_by n counts rows
rows_at_most n [] rows = refl
rows_at_most n (c ∷ counts) [] = refl
rows_at_most n (c ∷ counts) (row ∷ rows) = ap₂ (λ x xs. x ∷ xs) (owed_by_at_most n c row) (rows_at_most n counts rows)

values_at_most : (n : ℕ) (counts : List (List Bool)) (values : List ValueKept)
    → owed_values_by (min n 4294967295) counts values ≡ owed_values_by n counts values
values_at_most n [] values = refl
values_at_most n (c ∷ counts) [] = refl
values_at_most n (c ∷ counts) (v ∷ values) =
    ap₂ (λ (x : ValueKept) xs. x ∷ xs) (λ i. record
    { hits = owed_by_at_most n c v.hits i; numbers = v.numbers })
    (values_at_most n counts values)

pub member_by_at_most : (n : ℕ) (counts : MemberCounted) (kept : MemberKept)
    → owed_member_by (min n 4294967295) counts kept ≡ owed_member_by n counts kept
member_by_at_most n counts kept = (λ i. record
    { tests = rows_at_most n counts.tests kept.tests i; values = values_at_most n counts.values kept.values i })

-- what is owed changes no count and no number
numbers_stay : (n : ℕ) (counts : List (List Bool)) (values : List ValueKept) → map length counts
    ≡ map length (hit_rows values)
    → map (λ (v : ValueKept). v.numbers) (owed_values_by n counts values) ≡ map (λ (v : ValueKept). v.numbers) values
numbers_stay n [] [] long = refl
numbers_stay n [] (v ∷ values) long = absurd (none (length v.hits) (map length (hit_rows values)) (sym long))
numbers_stay n (c ∷ counts) [] long = absurd (none (length c) (map length counts) long)
numbers_stay n (c ∷ counts) (v ∷ values) long =
    ap (λ xs. v.numbers ∷ xs) (numbers_stay n counts values
    (tails (length c) (length v.hits) (map length counts) (map length (hit_rows values)) long))

pub owed_by_numbers : (n : ℕ) (counts : MemberCounted) (kept : MemberKept) → CountsFit counts kept
    → map (λ (v : ValueKept). v.numbers) (owed_member_by n counts kept).values
    ≡ map (λ (v : ValueKept). v.numbers) kept.values
owed_by_numbers n counts kept fit = numbers_stay n counts.values kept.values fit.values

owed_rows_long : (n : ℕ) (counts : List (List Bool)) (rows : List (List ℕ)) → map length counts
    ≡ map length rows → map length (owed_rows_by n counts rows) ≡ map length rows
owed_rows_long n [] [] long = refl
owed_rows_long n [] (row ∷ rows) long = absurd (none (length row) (map length rows) (sym long))
owed_rows_long n (c ∷ counts) [] long = absurd (none (length c) (map length counts) long)
owed_rows_long n (c ∷ counts) (row ∷ rows) long =
    ap₂ (λ x xs. x ∷ xs) (length-owed_by n c row) (owed_rows_long n counts rows
    (tails (length c) (length row) (map length counts) (map length rows) long))

pub owed_hit_rows : (n : ℕ) (counts : List (List Bool)) (values : List ValueKept)
    → hit_rows (owed_values_by n counts values) ≡ owed_rows_by n counts (hit_rows values)
owed_hit_rows n [] values = refl
owed_hit_rows n (c ∷ counts) [] = refl
owed_hit_rows n (c ∷ counts) (v ∷ values) = ap (λ xs. owed_by n c v.hits ∷ xs) (owed_hit_rows n counts values)

pub owed_by_fits : (n : ℕ) (m : MemberContents) (counts : MemberCounted) (kept : MemberKept)
    → CountsFit counts kept → HasShape m kept → HasShape m (owed_member_by n counts kept)
owed_by_fits n m counts kept fit shape = record {
  tests = owed_rows_long n counts.tests kept.tests fit.tests ∙ shape.tests;
  hits =
      ap (map length) (owed_hit_rows n counts.values kept.values)
      ∙ owed_rows_long n counts.values (hit_rows kept.values) fit.values ∙ shape.hits;
  numbers = ap (map length) (owed_by_numbers n counts kept fit) ∙ shape.numbers;
}

-- what two rows owe is what each of them owes
module _ (n : ℕ) (one : List Bool) (two : List ℕ) (three : List Bool) (four : List ℕ)
    (long : length one ≡ length two) where
  abbrev owes : Bool → ℕ → ℕ
  owes b h = cond b (plus n h) h

  by_place : (j : ℕ) → j < length (two ++ four) → (j < length two) ⊎ (length two ≤ j)
      → get_or (owed_by n one two ++ owed_by n three four) j 0
      ≡ owes (slice_index_or (one ++ three) j false) (slice_index (two ++ four) j)
  by_place j within (inl front) =
      get_or_append_left (owed_by n one two) (owed_by n three four) 0 j (omega (arith, front, length-owed_by n one two))
      ∙ owed_by_at n one two j front
      ∙ sym (λ i. owes (get_or_append_left one three false j (omega (arith, front, long)) i)
      (get_or_append_left two four 0 j front i))
  by_place j within (inr back) =
      let there : j ≡ length two + (j - length two) = omega (arith, back) in
      let k = j - length two in
      let most : k < length four = omega (arith, back, within, length-append two four) in
      ap (λ m. get_or (owed_by n one two ++ owed_by n three four) m 0) (there
      ∙ ap (λ m. m + k) (sym (length-owed_by n one two)))
      ∙ get_or-append-add (owed_by n one two) (owed_by n three four) k 0
      ∙ owed_by_at n three four k most
      ∙ sym ((λ i. owes (slice_index_or (one ++ three)
      ((there ∙ ap (λ m. m + k) (sym long)) i) false) (slice_index (two ++ four) (there i)))
      ∙ (λ i. owes (get_or-append-add one three k false i) (get_or-append-add two four k 0 i)))

  owed_append : owed_by n (one ++ three) (two ++ four) ≡ owed_by n one two ++ owed_by n three four
  owed_append =
      sym (fill_by_all (λ j. owes (slice_index_or (one ++ three) j false) (slice_index
      (two ++ four) j)) (owed_by n one two ++ owed_by n three four) (length (two ++ four)) 0
      (length-append (owed_by n one two) (owed_by n three four) ∙ ap₂ (λ x y. x + y)
      (length-owed_by n one two) (length-owed_by n three four) ∙ sym (length-append two four))
      (λ j within. by_place j within (cases_lt j (length two))))

rows_owed : (n : ℕ) (counts : List (List Bool)) (rows : List (List ℕ)) → map length counts
    ≡ map length rows → owed_by n (flat_map (λ (bits : List Bool). bits) counts) (concat rows)
    ≡ concat (owed_rows_by n counts rows)
rows_owed n [] [] long = refl
rows_owed n [] (row ∷ rows) long = absurd (none (length row) (map length rows) (sym long))
rows_owed n (c ∷ counts) [] long = absurd (none (length c) (map length counts) long)
rows_owed n (c ∷ counts) (row ∷ rows) long =
    owed_append n c row (flat_map (λ (bits : List Bool). bits) counts) (concat rows)
    (heads (length c) (length row) (map length counts) (map length rows) long)
    ∙ ap (λ xs. owed_by n c row ++ xs) (rows_owed n counts rows
    (tails (length c) (length row) (map length counts) (map length rows) long))

bits_append : (n : ℕ) (one three : List (List Bool)) (two four : List (List ℕ)) → length one
    ≡ length two → owed_rows_by n (one ++ three) (two ++ four)
    ≡ owed_rows_by n one two ++ owed_rows_by n three four
bits_append n [] three [] four long = refl
bits_append n [] three (b ∷ two) four long = absurd (omega (arith, long))
bits_append n (a ∷ one) three [] four long = absurd (omega (arith, long))
bits_append n (a ∷ one) three (b ∷ two) four long =
    ap (λ xs. owed_by n a b ∷ xs) (bits_append n one three two four (omega (arith, long)))

-- what a member owes, in the row of a progress file
pub saved_owed_by : (n : ℕ) (counts : MemberCounted) (kept : MemberKept) → CountsFit counts kept
    → owed_by n (bits_in counts) (saved_hits kept) ≡ saved_hits (owed_member_by n counts kept)
saved_owed_by n counts kept fit =
    let many : length counts.tests ≡ length kept.tests =
    sym (length-map counts.tests length) ∙ ap length fit.tests ∙ length-map kept.tests length in
    rows_owed n (counts.tests ++ counts.values) (kept.tests ++ hit_rows kept.values)
    (map-append length counts.tests counts.values ∙ ap₂ (λ xs ys. xs ++ ys) fit.tests fit.values
    ∙ sym (map-append length kept.tests (hit_rows kept.values)))
    ∙ ap concat (bits_append n counts.tests counts.values kept.tests (hit_rows kept.values) many
    ∙ ap (λ xs. owed_rows_by n counts.tests kept.tests ++ xs)
    (sym (owed_hit_rows n counts.values kept.values)))

concat_long : (counts : List (List Bool)) (rows : List (List ℕ)) → map length counts
    ≡ map length rows → length (flat_map (λ (bits : List Bool). bits) counts) ≡ length (concat rows)
concat_long [] [] long = refl
concat_long [] (row ∷ rows) long = absurd (none (length row) (map length rows) (sym long))
concat_long (c ∷ counts) [] long = absurd (none (length c) (map length counts) long)
concat_long (c ∷ counts) (row ∷ rows) long =
    let first = heads (length c) (length row) (map length counts) (map length rows) long in
    let others = concat_long counts rows (tails (length c) (length row) (map length counts) (map length rows) long) in
    omega (
      arith,
      first,
      others,
      length-append c (flat_map (λ (bits : List Bool). bits) counts),
      length-append row (concat rows),
    )

-- there is a bit for each hit in the row of a progress file
pub bits_many : (counts : MemberCounted) (kept : MemberKept) → CountsFit counts kept
    → length (bits_in counts) ≡ length (saved_hits kept)
bits_many counts kept fit =
    concat_long (counts.tests ++ counts.values) (kept.tests ++ hit_rows kept.values)
    (map-append length counts.tests counts.values ∙ ap₂ (λ xs ys. xs ++ ys) fit.tests fit.values
    ∙ sym (map-append length kept.tests (hit_rows kept.values)))

pub saved_stay_by : (n : ℕ) (counts : MemberCounted) (kept : MemberKept) → CountsFit counts kept
    → saved_numbers (owed_member_by n counts kept) ≡ saved_numbers kept
saved_stay_by n counts kept fit = ap concat (owed_by_numbers n counts kept fit)

-- after no frames nothing is owed
pub owed_by_nothing : (counts : List Bool) (hits : List ℕ)
    → ((j : ℕ) → slice_index hits j ≤ 4294967295) → owed_by 0 counts hits ≡ hits
owed_by_nothing counts hits most = owed_apart 0 counts hits ∙ paid_nothing (apart counts hits) hits most

-- whether the hits at a place stay, or are free and one more
abbrev pub keeps_place : (free : List Bool) → (before after : List ℕ) → ℕ → Bool
keeps_place free before after j = keeps_by (slice_index_or free j false) (slice_index before j) (slice_index after j)
