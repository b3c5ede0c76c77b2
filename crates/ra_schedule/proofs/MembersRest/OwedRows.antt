-- What members owe, in rows, and the shape of what they keep.
use Rattle.std.proofs.Common.{◌≡◌, ℕ, List, [], ◌∷◌, ◌++◌, length, map, refl, sym, ◌∙◌, ap, ap₂, arith, length-append}
use Rattle.std.proofs.Common.{subst}
use Rattle.std.specs.List.{concat}
use Rattle.std.proofs.lemmas.List.{length-map, map-append}
use Rattle.ra_schedule.specs.Groups.{paid}
use Rattle.ra_value.specs.Steps.{ValueKept}
use Rattle.ra_member.specs.Members.{MemberContents, HasShape, MemberKept, hit_rows, saved_hits, saved_numbers}
use Rattle.ra_schedule.specs.Owing.{HaveOneShape, owed_member, owed_tests, owed_values}
use Rattle.ra_schedule.proofs.MembersRest.GoesOn.{as_many, heads, numbers_long, paid_append, tails}
use Rattle.ra_schedule.proofs.Resting.Owed.{length-paid}

-- what a member owes, in the row of a progress file
paid_rows : (n : ℕ) (befores hits : List (List ℕ)) → map length befores ≡ map length hits
    → paid n (concat befores) (concat hits) ≡ concat (owed_tests n befores hits)
paid_rows n [] [] long = refl
paid_rows n [] (row ∷ hits) long = absurd (cc)
paid_rows n (before ∷ befores) [] long = absurd (cc)
paid_rows n (b ∷ befores) (row ∷ hits) long =
    paid_append n b row (concat befores) (concat hits)
    (heads (length b) (length row) (map length befores) (map length hits) long)
    ∙ ap (λ xs. paid n b row ++ xs) (paid_rows n befores hits
    (tails (length b) (length row) (map length befores) (map length hits) long))

pub owed_rows : (n : ℕ) (olds news : List ValueKept)
    → map (λ (v : ValueKept). v.hits) (owed_values n (map (λ (v : ValueKept). v.hits) olds) news)
    ≡ owed_tests n (map (λ (v : ValueKept). v.hits) olds) (map (λ (v : ValueKept). v.hits) news)
owed_rows n [] news = refl
owed_rows n (old ∷ olds) [] = refl
owed_rows n (old ∷ olds) (new ∷ news) = ap (λ xs. paid n old.hits new.hits ∷ xs) (owed_rows n olds news)

pub rows_append : (n : ℕ) (one two three four : List (List ℕ)) → length one ≡ length two
    → owed_tests n (one ++ three) (two ++ four) ≡ owed_tests n one two ++ owed_tests n three four
rows_append n [] [] three four long = refl
rows_append n [] (b ∷ two) three four long = absurd (omega (arith, long))
rows_append n (a ∷ one) [] three four long = absurd (omega (arith, long))
rows_append n (a ∷ one) (b ∷ two) three four long =
    ap (λ xs. paid n a b ∷ xs) (rows_append n one two three four (omega (arith, long)))

-- two members of one shape have as many hits in a row
rows_alike : (old new : MemberKept) → HaveOneShape old new → map length (hit_rows old) ≡ map length (hit_rows new)
rows_alike old new shape =
    let hits = map (λ (v : ValueKept). v.hits) in
    map-append length old.tests (hits old.values) ∙ ap₂ (λ xs ys. xs ++ ys) shape.tests shape.hits
    ∙ sym (map-append length new.tests (hits new.values))

concat_long : (olds news : List (List ℕ)) → map length olds ≡ map length news → length (concat olds)
    ≡ length (concat news)
concat_long [] [] long = refl
concat_long [] (row ∷ news) long = absurd (cc)
concat_long (old ∷ olds) [] long = absurd (cc)
concat_long (old ∷ olds) (row ∷ news) long =
    let first = heads (length old) (length row) (map length olds) (map length news) long in
    let others = concat_long olds news (tails (length old) (length row) (map length olds) (map length news) long) in
    omega (arith, first, others, length-append old (concat olds), length-append row (concat news))

pub saved_many : (old new : MemberKept) → HaveOneShape old new → length (saved_hits old) ≡ length (saved_hits new)
saved_many old new shape = concat_long (hit_rows old) (hit_rows new) (rows_alike old new shape)

pub saved_owed : (n : ℕ) (old new : MemberKept) → HaveOneShape old new
    → paid n (saved_hits old) (saved_hits new) ≡ saved_hits (owed_member n old new)
saved_owed n old new shape =
    let tests_many : length old.tests ≡ length new.tests =
    sym (length-map old.tests length) ∙ ap length shape.tests ∙ length-map new.tests length in
    paid_rows n (hit_rows old) (hit_rows new) (rows_alike old new shape)
    ∙ ap concat (rows_append n old.tests new.tests (map (λ (v : ValueKept). v.hits) old.values)
    (map (λ (v : ValueKept). v.hits) new.values) tests_many
    ∙ ap (λ xs. owed_tests n old.tests new.tests ++ xs) (sym (owed_rows n old.values new.values)))

pub saved_stay : (n : ℕ) (old new : MemberKept) → HaveOneShape old new
    → saved_numbers (owed_member n old new) ≡ saved_numbers new
saved_stay n old new shape =
    let many : length old.values ≡ length new.values =
    sym (length-map old.values (λ (v : ValueKept). v.hits))
    ∙ as_many (map (λ (v : ValueKept). v.hits) old.values) (map (λ (v : ValueKept). v.hits)
    new.values) length shape.hits ∙ length-map new.values (λ (v : ValueKept). v.hits) in
    ap concat (numbers_long n old.values new.values many)

rows_stay : (n : ℕ) (befores hits : List (List ℕ)) → map length befores ≡ map length hits
    → map length (owed_tests n befores hits) ≡ map length hits
rows_stay n [] [] long = refl
rows_stay n [] (row ∷ hits) long = absurd (cc)
rows_stay n (b ∷ befores) [] long = absurd (cc)
rows_stay n (b ∷ befores) (row ∷ hits) long =
    ap₂ (λ x xs. x ∷ xs) (length-paid n b row) (rows_stay n befores hits
    (tails (length b) (length row) (map length befores) (map length hits) long))

pub owed_shape : (n : ℕ) (old now after : MemberKept) → after ≡ owed_member n old now
    → HaveOneShape old now → HaveOneShape old after
owed_shape n old now after is shape =
    let hits = map (λ (v : ValueKept). v.hits) in
    let many : length old.values ≡ length now.values =
    sym (length-map old.values (λ (v : ValueKept). v.hits)) ∙ as_many (hits old.values)
    (hits now.values) length shape.hits ∙ length-map now.values (λ (v : ValueKept). v.hits) in
    subst (HaveOneShape old) (sym is) (record {
      tests = shape.tests ∙ sym (rows_stay n old.tests now.tests shape.tests);
      hits = shape.hits ∙ sym (ap (map length) (owed_rows n old.values now.values)
          ∙ rows_stay n (hits old.values) (hits now.values) shape.hits);
      numbers = shape.numbers ∙ sym (ap (map length) (numbers_long n old.values now.values many));
    })

-- what has the shape of one text has one shape
pub one_shape_of : (m : MemberContents) (one other : MemberKept) → HasShape m one → HasShape m other
    → HaveOneShape one other
one_shape_of m one other shape shape_too = record {
  tests = shape.tests ∙ sym shape_too.tests;
  hits = shape.hits ∙ sym shape_too.hits;
  numbers = shape.numbers ∙ sym shape_too.numbers;
}

-- what has one shape with what fits a text fits it
pub shape_again : (m : MemberContents) (one other : MemberKept) → HaveOneShape one other
    → HasShape m other → HasShape m one
shape_again m one other same shape = record {
  tests = same.tests ∙ shape.tests;
  hits = same.hits ∙ shape.hits;
  numbers = same.numbers ∙ shape.numbers;
}
