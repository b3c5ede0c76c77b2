-- What is kept of members, laid out in rows as in a progress file, is cut into itself again.
use Rattle.std.proofs.Common.{◌≡◌, ℕ, ◌+◌, List, [], ◌∷◌, ◌++◌, length, map, take, drop, zip, sum, replicate, refl, sym}
use Rattle.std.proofs.Common.{◌∙◌, ap, ap₂, arith, length-append, take-append-drop}
use Rattle.std.specs.List.{concat}
use Rattle.std.proofs.lemmas.List.{append-nil, map-append, length-map, take-map, drop-map, take_at, drop_at}
use Rattle.std.proofs.lemmas.List.{length-take-le, length-drop, replicate-append-replicate}
use Rattle.std.proofs.lemmas.List.Sums.{sum_by-cons}
use Rattle.std.proofs.lemmas.Simd.{map-map}
use Rattle.ra_condition.specs.Contents.{trigger_hits, value_hits}
use Rattle.ra_value.specs.Steps.{ValueKept, no_value}
use Rattle.ra_member.specs.Members.{MemberContents, MemberKept, HasShape, HaveShapes, no_hits, no_member, hit_lengths}
use Rattle.ra_member.specs.Members.{number_lengths, hit_rows, number_rows, saved_hits, saved_numbers, values_of}
use Rattle.ra_member.specs.Members.{opened_member, opened_members, member_hits, member_numbers}
use Rattle.ra_member.specs.Rows.{rows_by}
use Rattle.ra_member.proofs.Rows.{rows_laid, IsCut, rows_cut}

-- values are made again of their hits and numbers
values_again : (kept : List ValueKept) → values_of (map (λ (v : ValueKept). v.hits) kept)
    (map (λ (v : ValueKept). v.numbers) kept) ≡ kept
values_again [] = refl
values_again (k ∷ kept) = ap (λ ks. k ∷ ks) (values_again kept)

module _ (m : MemberContents) (kept : MemberKept) (shape : HasShape m kept) where
  pub hits_long : map length (hit_rows kept) ≡ hit_lengths m
  hits_long =
      map-append length kept.tests (map (λ (v : ValueKept). v.hits) kept.values)
      ∙ ap₂ (λ xs ys. xs ++ ys) shape.tests shape.hits

  as_many : length kept.tests ≡ length m.tests
  as_many = sym (length-map kept.tests length) ∙ ap length shape.tests ∙ length-map m.tests trigger_hits

  -- a member, from its rows
  pub member_again : opened_member m (saved_hits kept) (saved_numbers kept) ≡ kept
  member_again =
      let hits = map (λ (v : ValueKept). v.hits) kept.values in
      let rows : rows_by (hit_lengths m) (saved_hits kept) ≡ hit_rows kept =
      ap₂ rows_by (sym hits_long) (sym (append-nil (saved_hits kept))) ∙ rows_laid (hit_rows kept) [] in
      let numbers : rows_by (number_lengths m) (saved_numbers kept) ≡ number_rows kept =
      ap₂ rows_by (sym shape.numbers) (sym (append-nil (saved_numbers kept))) ∙ rows_laid (number_rows kept) [] in
      let tests = ap (take (length m.tests)) rows ∙ take_at kept.tests hits (length m.tests) as_many in
      let values = ap₂ (λ rs ns. values_of (drop (length m.tests) rs) ns) rows numbers
      ∙ ap (λ rs. values_of rs (number_rows kept)) (drop_at kept.tests hits (length m.tests) as_many)
      ∙ values_again kept.values in
      (λ i. record { tests = tests i; values = values i })

-- how long rows are together
length_rows : (rows : List (List ℕ)) → length (concat rows) ≡ sum (map length rows)
length_rows [] = refl
length_rows (row ∷ rows) =
    length-append row (concat rows) ∙ ap (λ n. length row + n) (length_rows rows)
    ∙ sym (sum_by-cons (λ (n : ℕ). n) (length row) (map length rows))

-- a member keeps as many hits and numbers as its texts say
pub saved_long : (m : MemberContents) (kept : MemberKept) → HasShape m kept
    → (length (saved_hits kept) ≡ member_hits m) × (length (saved_numbers kept) ≡ member_numbers m)
saved_long m kept shape = (
  length_rows (hit_rows kept) ∙ ap sum (hits_long m kept shape),
  length_rows (number_rows kept) ∙ ap sum shape.numbers,
)

hits_of_all : (members : List MemberContents) (kept : List MemberKept) → HaveShapes members kept
    → map length (map saved_hits kept) ≡ map member_hits members
hits_of_all [] [] shapes = refl
hits_of_all [] (k ∷ kept) shapes = absurd shapes
hits_of_all (m ∷ members) [] shapes = absurd shapes
hits_of_all (m ∷ members) (k ∷ kept) shapes =
    ap₂ (λ n ns. n ∷ ns) (saved_long m k shapes.0).0 (hits_of_all members kept shapes.1)

numbers_of_all : (members : List MemberContents) (kept : List MemberKept) → HaveShapes members kept
    → map length (map saved_numbers kept) ≡ map member_numbers members
numbers_of_all [] [] shapes = refl
numbers_of_all [] (k ∷ kept) shapes = absurd shapes
numbers_of_all (m ∷ members) [] shapes = absurd shapes
numbers_of_all (m ∷ members) (k ∷ kept) shapes =
    ap₂ (λ n ns. n ∷ ns) (saved_long m k shapes.0).1 (numbers_of_all members kept shapes.1)

each_again : (members : List MemberContents) (kept : List MemberKept) → HaveShapes members kept
    → map (λ m. opened_member m.0 m.1.0 m.1.1)
    (zip members (zip (map saved_hits kept) (map saved_numbers kept))) ≡ kept
each_again [] [] shapes = refl
each_again [] (k ∷ kept) shapes = absurd shapes
each_again (m ∷ members) [] shapes = absurd shapes
each_again (m ∷ members) (k ∷ kept) shapes =
    ap₂ (λ x xs. x ∷ xs) (member_again m k shapes.0) (each_again members kept shapes.1)

-- members keep as many hits and numbers together as their texts say
pub members_long : (members : List MemberContents) (kept : List MemberKept)
    → HaveShapes members kept → (length (concat (map saved_hits kept)) ≡ sum (map member_hits
    members)) × (length (concat (map saved_numbers kept)) ≡ sum (map member_numbers members))
members_long members kept shapes = (
  length_rows (map saved_hits kept) ∙ ap sum (hits_of_all members kept shapes),
  length_rows (map saved_numbers kept) ∙ ap sum (numbers_of_all members kept shapes),
)

-- members one behind the other, from the row of all hits and that of all numbers
pub members_again : (members : List MemberContents) (kept : List MemberKept)
    → HaveShapes members kept
    → opened_members members (concat (map saved_hits kept)) (concat (map saved_numbers kept)) ≡ kept
members_again members kept shapes =
    let hits : rows_by (map member_hits members) (concat (map saved_hits kept)) ≡ map saved_hits kept =
    ap₂ rows_by (sym (hits_of_all members kept shapes))
    (sym (append-nil (concat (map saved_hits kept)))) ∙ rows_laid (map saved_hits kept) [] in
    let numbers : rows_by (map member_numbers members) (concat (map saved_numbers kept)) ≡ map saved_numbers kept =
    ap₂ rows_by (sym (numbers_of_all members kept shapes))
    (sym (append-nil (concat (map saved_numbers kept)))) ∙ rows_laid (map saved_numbers kept) [] in
    ap₂ (λ hs ns. map (λ m. opened_member m.0 m.1.0 m.1.1) (zip members (zip hs ns))) hits numbers
    ∙ each_again members kept shapes

-- values made of as many hits as numbers have these
values_have : (hits numbers : List (List ℕ)) → length hits ≡ length numbers
    → (map (λ (v : ValueKept). v.hits) (values_of hits numbers) ≡ hits)
    × (map (λ (v : ValueKept). v.numbers) (values_of hits numbers) ≡ numbers)
values_have [] [] same = (refl, refl)
values_have [] (n ∷ numbers) same = absurd (omega arith)
values_have (h ∷ hits) [] same = absurd (omega arith)
values_have (h ∷ hits) (n ∷ numbers) same =
    let rest = values_have hits numbers (omega arith) in
    (ap (λ rows. h ∷ rows) rest.0, ap (λ rows. n ∷ rows) rest.1)

-- what is cut from rows has the counts of its texts, and is laid out as these rows again
pub record IsOpened (m : MemberContents) (hits numbers : List ℕ) : Type 0 where
  pub shape : HasShape m (opened_member m hits numbers)
  pub hits_too : saved_hits (opened_member m hits numbers) ≡ hits
  pub numbers_too : saved_numbers (opened_member m hits numbers) ≡ numbers

-- rows as long as the texts say
pub member_opened : (m : MemberContents) (hits numbers : List ℕ) → length hits ≡ member_hits m
    → length numbers ≡ member_numbers m → IsOpened m hits numbers
member_opened m hits numbers long longs =
    let cut : IsCut (hit_lengths m) hits = rows_cut (hit_lengths m) hits long in
    let cuts : IsCut (number_lengths m) numbers = rows_cut (number_lengths m) numbers longs in
    let n : ℕ = length m.tests in
    let rows = rows_by (hit_lengths m) hits in
    let parts = rows_by (number_lengths m) numbers in
    let many : length (map trigger_hits m.tests) ≡ n = length-map m.tests trigger_hits in
    let tests : map length (take n rows) ≡ map trigger_hits m.tests =
    sym (take-map length n rows) ∙ ap (take n) cut.as_long
    ∙ take_at (map trigger_hits m.tests) (map value_hits m.values) n many in
    let behind : map length (drop n rows) ≡ map value_hits m.values =
    sym (drop-map length n rows) ∙ ap (drop n) cut.as_long
    ∙ drop_at (map trigger_hits m.tests) (map value_hits m.values) n many in
    let same : length (drop n rows) ≡ length parts =
    sym (length-map (drop n rows) length) ∙ ap length behind ∙ length-map m.values value_hits
    ∙ sym (sym (length-map parts length) ∙ ap length cuts.as_long ∙ length-map m.values length) in
    let have = values_have (drop n rows) parts same in
    record {
      shape = record
          { tests = tests; hits = ap (map length) have.0 ∙ behind; numbers = ap (map length) have.1 ∙ cuts.as_long };
      hits_too = ap (λ rs. concat (take n rows ++ rs)) have.0 ∙ ap concat (take-append-drop n rows) ∙ cut.whole;
      numbers_too = ap concat have.1 ∙ cuts.whole;
    }

-- members one behind the other
pub record AreOpened (members : List MemberContents) (hits numbers : List ℕ) : Type 0 where
  pub shapes : HaveShapes members (opened_members members hits numbers)
  pub hits_too : concat (map saved_hits (opened_members members hits numbers)) ≡ hits
  pub numbers_too : concat (map saved_numbers (opened_members members hits numbers)) ≡ numbers

pub members_opened : (members : List MemberContents) (hits numbers : List ℕ) → length hits
    ≡ sum (map member_hits members) → length numbers ≡ sum (map member_numbers members)
    → AreOpened members hits numbers
members_opened [] [] [] long longs = record { shapes = tt; hits_too = refl; numbers_too = refl }
members_opened [] (h ∷ hits) numbers long longs = absurd (omega arith)
members_opened [] [] (n ∷ numbers) long longs = absurd (omega arith)
members_opened (m ∷ members) hits numbers long longs =
    let h = member_hits m in
    let n = member_numbers m in
    let more : length hits ≡ h + sum (map member_hits members) =
    long ∙ sum_by-cons (λ (x : ℕ). x) h (map member_hits members) in
    let mores : length numbers ≡ n + sum (map member_numbers members) =
    longs ∙ sum_by-cons (λ (x : ℕ). x) n (map member_numbers members) in
    let one = member_opened m (take h hits) (take n numbers) (length-take-le h hits (omega arith))
    (length-take-le n numbers (omega arith)) in
    let rest = members_opened members (drop h hits) (drop n numbers)
    (omega (arith, length-drop h hits)) (omega (arith, length-drop n numbers)) in
    record {
      shapes = (one.shape, rest.shapes);
      hits_too = ap₂ (λ xs ys. xs ++ ys) one.hits_too rest.hits_too ∙ take-append-drop h hits;
      numbers_too = ap₂ (λ xs ys. xs ++ ys) one.numbers_too rest.numbers_too ∙ take-append-drop n numbers;
    }

-- zeros in a row
abbrev zeros : ℕ → List ℕ
zeros n = replicate n 0

rows_zero : (lengths : List ℕ) → concat (map zeros lengths) ≡ zeros (sum lengths)
rows_zero [] = refl
rows_zero (n ∷ lengths) =
    ap (λ xs. zeros n ++ xs) (rows_zero lengths)
    ∙ replicate-append-replicate n (sum lengths) 0
    ∙ ap zeros (sym (sum_by-cons (λ (x : ℕ). x) n lengths))

-- a member that was never stepped keeps zeros
pub none_saved : (m : MemberContents) → (saved_hits (no_member m) ≡ zeros (member_hits m))
    × (saved_numbers (no_member m) ≡ zeros (member_numbers m))
none_saved m =
    let tests : map no_hits m.tests ≡ map zeros (map trigger_hits m.tests) = sym (map-map zeros trigger_hits m.tests) in
    let hits : map (λ (v : ValueKept). v.hits) (map no_value m.values)
    ≡ map zeros (map value_hits m.values) = map-map (λ (v : ValueKept). v.hits) no_value m.values
    ∙ sym (map-map zeros value_hits m.values) in
    let numbers : map (λ (v : ValueKept). v.numbers) (map no_value m.values)
    ≡ map zeros (map length m.values) = map-map (λ (v : ValueKept). v.numbers) no_value m.values
    ∙ sym (map-map zeros length m.values) in (
      ap concat (ap₂ (λ xs ys. xs ++ ys) tests hits ∙ sym (map-append zeros
          (map trigger_hits m.tests) (map value_hits m.values))) ∙ rows_zero (hit_lengths m),
      ap concat numbers ∙ rows_zero (number_lengths m),
    )

pub nones_saved : (members : List MemberContents)
    → (concat (map saved_hits (map no_member members)) ≡ zeros (sum (map member_hits members))) ×
    (concat (map saved_numbers (map no_member members)) ≡ zeros (sum (map member_numbers members)))
nones_saved [] = (refl, refl)
nones_saved (m ∷ members) =
    let one = none_saved m in
    let rest = nones_saved members in (
      ap₂ (λ xs ys. xs ++ ys) one.0 rest.0 ∙ replicate-append-replicate (member_hits m)
          (sum (map member_hits members)) 0
          ∙ ap zeros (sym (sum_by-cons (λ (x : ℕ). x) (member_hits m) (map member_hits members))),
      ap₂ (λ xs ys. xs ++ ys) one.1 rest.1 ∙ replicate-append-replicate (member_numbers m)
          (sum (map member_numbers members)) 0 ∙ ap zeros
          (sym (sum_by-cons (λ (x : ℕ). x) (member_numbers m) (map member_numbers members))),
    )
