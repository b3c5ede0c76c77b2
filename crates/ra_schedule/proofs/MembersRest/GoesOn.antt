-- What kept all but free hits at a frame goes on to rest where it sees the same, and each frame more adds what is owed.
use Rattle.std.proofs.Common.{◌≡◌, ◌⊎◌, inl, inr, ℕ, ◌+◌, ◌-◌, ◌<◌, ◌≤◌, List, [], ◌∷◌, ◌++◌, length, map, get_or}
use Rattle.std.proofs.Common.{slice_index, refl, sym, ◌∙◌, ap, ap₂, arith, length-append}
use Rattle.std.proofs.lemmas.Bool.{cases_lt}
use Rattle.std.proofs.lemmas.List.{get_or_append_left, get_or-append-add}
use Rattle.std.proofs.lemmas.List.FromFn.{fill_by_all}
use Rattle.std.proofs.lemmas.List.{length-map}
use Rattle.ra_condition.specs.Contents.{TriggerContents, groups_of, trigger_hits, PartContents, counted_in, value_hits}
use Rattle.ra_trigger.specs.Steps.{hits_after_truth, truth}
use Rattle.ra_value.specs.Steps.{ValueKept, step as value_step}
use Rattle.ra_memory.specs.Image.{History}
use Rattle.ra_memref.specs.Values.{Start}
use Rattle.ra_schedule.specs.Groups.{paid}
use Rattle.ra_member.specs.Frames.{truths_at, lefts_at, sum_at, test_next, value_next}
use Rattle.ra_member.specs.Members.{MemberContents, MemberKept, HasShape, tests_next, tests_hold, values_next}
use Rattle.ra_schedule.specs.Inputs.{Instant, TestsSeeSame, ValuesSeeSame}
use Rattle.ra_schedule.specs.Owing.{AreTestsSmall, AreValuesSmall, TestsKeep, ValuesKeep, owed_tests, owed_values}
use Rattle.ra_schedule.specs.Owing.{owed_member}
use Rattle.ra_schedule.specs.Values.{owed_value}
use Rattle.ra_schedule.proofs.Resting.Lefts.{test_same, value_same}
use Rattle.ra_schedule.proofs.Resting.Owed.{length-paid, owed, owed_none, paid_at}
use Rattle.ra_schedule.proofs.MembersRest.OneOn.{test_goes_on, test_says_on, test_owes_nothing, value_goes_on}
use Rattle.ra_schedule.proofs.MembersRest.OneOn.{value_owes_nothing}

pub heads : {A : Type 0} (x y : A) (xs ys : List A) → x ∷ xs ≡ y ∷ ys → x ≡ y
heads x y xs ys same = cc

pub tails : {A : Type 0} (x y : A) (xs ys : List A) → x ∷ xs ≡ y ∷ ys → xs ≡ ys
tails x y xs ys same = cc

module _ (now later : Instant) where
  -- tests
  pub tests_go_on : (tests : List TriggerContents) (olds news : List (List ℕ)) → map length olds
      ≡ map trigger_hits tests → TestsSeeSame now later tests
      → news ≡ tests_next now.start tests now.history olds → AreTestsSmall olds → TestsKeep tests olds news → (n : ℕ)
      → tests_next later.start tests later.history (owed_tests n olds news) ≡ owed_tests (n + 1) olds news
  tests_go_on [] [] [] long same is small keep n = refl
  tests_go_on [] [] (new ∷ news) long same is small keep n = absurd keep
  tests_go_on [] (old ∷ olds) news long same is small keep n = absurd keep
  tests_go_on (t ∷ tests) [] news long same is small keep n = absurd keep
  tests_go_on (t ∷ tests) (old ∷ olds) [] long same is small keep n = absurd keep
  tests_go_on (t ∷ tests) (old ∷ olds) (new ∷ news) long same is small keep n =
      let truths = truths_at now.start now.history (groups_of t) in
      let lefts = lefts_at now.start now.history (groups_of t) in
      let one : new ≡ hits_after_truth t truths lefts old = heads new (test_next now.start t
      now.history old) news (tests_next now.start tests now.history olds) is in
      let rest : news ≡ tests_next now.start tests now.history olds = tails new (test_next now.start
      t now.history old) news (tests_next now.start tests now.history olds) is in
      let here : hits_after_truth t truths lefts (paid n old new) ≡ paid (n + 1) old new =
      test_goes_on t truths lefts old new (heads (length old) (trigger_hits t) (map length olds)
      (map trigger_hits tests) long) small.0 one keep.0 n in
      ap₂ (λ x xs. x ∷ xs)
      ((test_same t (truths_at later.start later.history (groups_of t)) lefts
      (lefts_at later.start later.history (groups_of t)) (paid n old new) same.0.lefts).1
      ∙ ap (λ ts. hits_after_truth t ts lefts (paid n old new)) same.0.truths ∙ here)
      (tests_go_on tests olds news (tails (length old) (trigger_hits t) (map length olds)
      (map trigger_hits tests) long) same.1 rest small.1 keep.1 n)

  -- and say what they said
  pub tests_say_on : (tests : List TriggerContents) (olds news : List (List ℕ)) → map length olds
      ≡ map trigger_hits tests → TestsSeeSame now later tests
      → news ≡ tests_next now.start tests now.history olds → AreTestsSmall olds → TestsKeep tests olds news → (n : ℕ)
      → tests_hold later.start tests later.history (owed_tests n olds news)
      ≡ tests_hold now.start tests now.history olds
  tests_say_on [] [] [] long same is small keep n = refl
  tests_say_on [] [] (new ∷ news) long same is small keep n = absurd keep
  tests_say_on [] (old ∷ olds) news long same is small keep n = absurd keep
  tests_say_on (t ∷ tests) [] news long same is small keep n = absurd keep
  tests_say_on (t ∷ tests) (old ∷ olds) [] long same is small keep n = absurd keep
  tests_say_on (t ∷ tests) (old ∷ olds) (new ∷ news) long same is small keep n =
      let truths = truths_at now.start now.history (groups_of t) in
      let lefts = lefts_at now.start now.history (groups_of t) in
      let one : new ≡ hits_after_truth t truths lefts old = heads new (test_next now.start t
      now.history old) news (tests_next now.start tests now.history olds) is in
      let rest : news ≡ tests_next now.start tests now.history olds = tails new (test_next now.start
      t now.history old) news (tests_next now.start tests now.history olds) is in
      let here : truth t truths lefts (paid n old new) ≡ truth t truths lefts old =
      test_says_on t truths lefts old new (heads (length old) (trigger_hits t) (map length olds)
      (map trigger_hits tests) long) small.0 one keep.0 n in
      ap₂ (λ x xs. x ∷ xs)
      ((test_same t (truths_at later.start later.history (groups_of t)) lefts
      (lefts_at later.start later.history (groups_of t)) (paid n old new) same.0.lefts).0
      ∙ ap (λ ts. truth t ts lefts (paid n old new)) same.0.truths ∙ here)
      (tests_say_on tests olds news (tails (length old) (trigger_hits t) (map length olds)
      (map trigger_hits tests) long) same.1 rest small.1 keep.1 n)

  -- values
  pub values_go_on : (values : List (List PartContents)) (olds news : List ValueKept) → map length
      (map (λ (v : ValueKept). v.hits) olds) ≡ map value_hits values
      → ValuesSeeSame now later values
      → news ≡ values_next now.start values now.history olds → AreValuesSmall olds
      → ValuesKeep values olds news → (n : ℕ)
      → values_next later.start values later.history (owed_values n (map (λ (v : ValueKept). v.hits)
      olds) news) ≡ owed_values (n + 1) (map (λ (v : ValueKept). v.hits) olds) news
  values_go_on [] [] [] long same is small keep n = refl
  values_go_on [] [] (new ∷ news) long same is small keep n = absurd keep
  values_go_on [] (old ∷ olds) news long same is small keep n = absurd keep
  values_go_on (parts ∷ values) [] news long same is small keep n = absurd keep
  values_go_on (parts ∷ values) (old ∷ olds) [] long same is small keep n = absurd keep
  values_go_on (parts ∷ values) (old ∷ olds) (new ∷ news) long same is small keep n =
      let truths = truths_at now.start now.history (map counted_in parts) in
      let lefts = lefts_at now.start now.history (map counted_in parts) in
      let sums = map (sum_at now.start now.history) parts in
      let hits = map (λ (v : ValueKept). v.hits) in
      let one : new ≡ value_step parts truths lefts sums old = heads new (value_next now.start parts
      now.history old) news (values_next now.start values now.history olds) is in
      let rest : news ≡ values_next now.start values now.history olds = tails new (value_next
      now.start parts now.history old) news (values_next now.start values now.history olds) is in
      let here : value_step parts truths lefts sums (owed_value n old.hits new) ≡ owed_value (n + 1) old.hits new =
      value_goes_on parts truths lefts sums old new (heads (length old.hits) (value_hits parts) (map
      length (hits olds)) (map value_hits values) long) small.0 one keep.0.numbers keep.0.hits n in
      ap₂ (λ x xs. x ∷ xs)
      (value_same parts (truths_at later.start later.history (map counted_in parts)) lefts
      (lefts_at later.start later.history (map counted_in parts)) (map
      (sum_at later.start later.history) parts) (owed_value n old.hits new) same.0.conditions.lefts
      ∙ (λ i. value_step parts (same.0.conditions.truths i) lefts (same.0.sums i) (owed_value n old.hits new)) ∙ here)
      (values_go_on values olds news (tails (length old.hits) (value_hits parts)
      (map length (hits olds)) (map value_hits values) long) same.1 rest small.1 keep.1 n)

-- nothing is owed at once
module _ (start : Start) (history : History) where
  pub tests_owe_nothing : (tests : List TriggerContents) (olds news : List (List ℕ))
      → map length olds ≡ map trigger_hits tests
      → news ≡ tests_next start tests history olds → AreTestsSmall olds → TestsKeep tests olds news
      → owed_tests 0 olds news ≡ news
  tests_owe_nothing [] [] [] long is small keep = refl
  tests_owe_nothing [] [] (new ∷ news) long is small keep = absurd keep
  tests_owe_nothing [] (old ∷ olds) news long is small keep = absurd keep
  tests_owe_nothing (t ∷ tests) [] news long is small keep = absurd keep
  tests_owe_nothing (t ∷ tests) (old ∷ olds) [] long is small keep = absurd keep
  tests_owe_nothing (t ∷ tests) (old ∷ olds) (new ∷ news) long is small keep =
      let one = heads new (test_next start t history old) news (tests_next start tests history olds) is in
      let rest = tails new (test_next start t history old) news (tests_next start tests history olds) is in
      ap₂ (λ x xs. x ∷ xs)
      (test_owes_nothing t (truths_at start history (groups_of t)) (lefts_at start history (groups_of t)) old new
      (heads (length old) (trigger_hits t) (map length olds) (map trigger_hits tests) long) small.0 one keep.0)
      (tests_owe_nothing tests olds news (tails (length old) (trigger_hits t) (map length olds)
      (map trigger_hits tests) long) rest small.1 keep.1)

  pub values_owe_nothing : (values : List (List PartContents)) (olds news : List ValueKept)
      → map length (map (λ (v : ValueKept). v.hits) olds) ≡ map value_hits values
      → news ≡ values_next start values history olds → AreValuesSmall olds → ValuesKeep values olds news
      → owed_values 0 (map (λ (v : ValueKept). v.hits) olds) news ≡ news
  values_owe_nothing [] [] [] long is small keep = refl
  values_owe_nothing [] [] (new ∷ news) long is small keep = absurd keep
  values_owe_nothing [] (old ∷ olds) news long is small keep = absurd keep
  values_owe_nothing (parts ∷ values) [] news long is small keep = absurd keep
  values_owe_nothing (parts ∷ values) (old ∷ olds) [] long is small keep = absurd keep
  values_owe_nothing (parts ∷ values) (old ∷ olds) (new ∷ news) long is small keep =
      let hits = map (λ (v : ValueKept). v.hits) in
      let one = heads new (value_next start parts history old) news (values_next start values history olds) is in
      let rest = tails new (value_next start parts history old) news (values_next start values history olds) is in
      ap₂ (λ x xs. x ∷ xs)
      (value_owes_nothing parts (truths_at start history (map counted_in parts))
      (lefts_at start history (map counted_in parts))
      (map (sum_at start history) parts) old new
      (heads (length old.hits) (value_hits parts) (map length (hits olds))
      (map value_hits values) long) small.0 one keep.0.numbers keep.0.hits)
      (values_owe_nothing values olds news (tails (length old.hits) (value_hits parts)
      (map length (hits olds)) (map value_hits values) long) rest small.1 keep.1)

-- values that are not stepped owe nothing, ever
pub values_stay : (n : ℕ) (kept : List ValueKept) → owed_values n (map (λ (v : ValueKept). v.hits) kept) kept ≡ kept
values_stay n [] = refl
values_stay n (v ∷ kept) =
    ap₂ (λ x xs. x ∷ xs) (λ i. record { hits = owed_none n v.hits i; numbers = v.numbers }) (values_stay n kept)

-- what is owed changes no count
tests_long : (n : ℕ) (olds news : List (List ℕ)) → length olds ≡ length news
    → map length (owed_tests n olds news) ≡ map length news
tests_long n [] [] long = refl
tests_long n [] (new ∷ news) long = absurd (omega arith)
tests_long n (old ∷ olds) [] long = absurd (omega arith)
tests_long n (old ∷ olds) (new ∷ news) long =
    ap₂ (λ x xs. x ∷ xs) (length-paid n old new) (tests_long n olds news (omega arith))

hits_long : (n : ℕ) (olds news : List ValueKept) → length olds ≡ length news
    → map length (map (λ (v : ValueKept). v.hits) (owed_values n (map
    (λ (v : ValueKept). v.hits) olds) news)) ≡ map length (map (λ (v : ValueKept). v.hits) news)
hits_long n [] [] long = refl
hits_long n [] (new ∷ news) long = absurd (omega arith)
hits_long n (old ∷ olds) [] long = absurd (omega arith)
hits_long n (old ∷ olds) (new ∷ news) long =
    ap₂ (λ x xs. x ∷ xs) (length-paid n old.hits new.hits) (hits_long n olds news (omega arith))

pub numbers_long : (n : ℕ) (olds news : List ValueKept) → length olds ≡ length news
    → map (λ (v : ValueKept). v.numbers) (owed_values n (map (λ (v : ValueKept). v.hits) olds) news)
    ≡ map (λ (v : ValueKept). v.numbers) news
numbers_long n [] [] long = refl
numbers_long n [] (new ∷ news) long = absurd (omega arith)
numbers_long n (old ∷ olds) [] long = absurd (omega arith)
numbers_long n (old ∷ olds) (new ∷ news) long = ap (λ xs. new.numbers ∷ xs) (numbers_long n olds news (omega arith))

-- rows that are as long are as many
pub as_many : {A B : Type 0} (xs : List (List A)) (ns : List B) (f : B → ℕ) → map length xs
    ≡ map f ns → length xs ≡ length ns
as_many xs ns f long = sym (length-map xs length) ∙ ap length long ∙ length-map ns f

-- a member that owes has the counts of its texts
pub owed_fits : (n : ℕ) (m : MemberContents) (old new : MemberKept) → HasShape m old
    → HasShape m new → HasShape m (owed_member n old new)
owed_fits n m old new fits fits_too =
    let tests = as_many old.tests m.tests trigger_hits fits.tests
    ∙ sym (as_many new.tests m.tests trigger_hits fits_too.tests) in
    let values = values_many m old fits ∙ sym (values_many m new fits_too) in
    record {
      tests = tests_long n old.tests new.tests tests ∙ fits_too.tests;
      hits = hits_long n old.values new.values values ∙ fits_too.hits;
      numbers = ap (map length) (numbers_long n old.values new.values values) ∙ fits_too.numbers;
    }
  where
    values_many : (m : MemberContents) (kept : MemberKept) → HasShape m kept → length kept.values ≡ length m.values
    values_many m kept fits =
        sym (length-map kept.values (λ (v : ValueKept). v.hits))
        ∙ as_many (map (λ (v : ValueKept). v.hits) kept.values) m.values value_hits fits.hits

-- what two rows owe is what each of them owes
pub paid_append : (n : ℕ) (one two three four : List ℕ) → length one ≡ length two
    → paid n (one ++ three) (two ++ four) ≡ paid n one two ++ paid n three four
paid_append n one two three four long =
    sym (fill_by_all (λ j. owed n (slice_index (one ++ three) j) (slice_index (two ++ four) j))
    (paid n one two ++ paid n three four) (length (two ++ four)) 0
    (length-append (paid n one two) (paid n three four) ∙ ap₂ (λ x y. x + y) (length-paid n one two)
    (length-paid n three four) ∙ sym (length-append two four))
    (λ j within. by_place j within (cases_lt j (length two))))
  where
    by_place : (j : ℕ) → j < length (two ++ four) → (j < length two) ⊎ (length two ≤ j)
        → get_or (paid n one two ++ paid n three four) j 0
        ≡ owed n (slice_index (one ++ three) j) (slice_index (two ++ four) j)
    by_place j within (inl front) =
        get_or_append_left (paid n one two) (paid n three four) 0 j (omega (arith, front, length-paid n one two))
        ∙ paid_at n one two j front
        ∙ sym (λ i. owed n (get_or_append_left one three 0 j (omega (arith, front, long)) i)
        (get_or_append_left two four 0 j front i))
    by_place j within (inr back) =
        let there : j ≡ length two + (j - length two) = omega (arith, back) in
        let k = j - length two in
        let most : k < length four = omega (arith, back, within, length-append two four) in
        ap (λ m. get_or (paid n one two ++ paid n three four) m 0) (there
        ∙ ap (λ m. m + k) (sym (length-paid n one two)))
        ∙ get_or-append-add (paid n one two) (paid n three four) k 0
        ∙ paid_at n three four k most
        ∙ sym ((λ i. owed n (slice_index (one ++ three) ((there ∙ ap (λ m. m + k) (sym long)) i))
        (slice_index (two ++ four) (there i)))
        ∙ (λ i. owed n (get_or-append-add one three k 0 i) (get_or-append-add two four k 0 i)))
