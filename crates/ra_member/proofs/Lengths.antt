-- How many numbers are kept in a row, one element after the other.
use Rattle.std.proofs.Common.{◌≡◌, ℕ, ◌+◌, ◌<◌, ◌≤◌, List, ◌++◌, length, map, take, drop, get_or, sym, ◌∙◌, ap, arith}
use Rattle.std.proofs.Common.{length-append, take-append-drop}
use Rattle.std.specs.List.{flat_map}
use Rattle.std.proofs.lemmas.List.{take_more}
use Rattle.std.proofs.lemmas.List.Concat.{concat_is, flat_map-append}
use Rattle.std.proofs.lemmas.List.Folds.{concat-append, flat_map-map}
use Rattle.ra_value.specs.Steps.{ValueKept}
use Rattle.ra_member.specs.declared.member.Member.{Member}
use Rattle.ra_member.specs.declared.trigger_run.TriggerRun.{TriggerRun}
use Rattle.ra_member.specs.declared.value_run.ValueRun.{ValueRun}
use Rattle.ra_member.specs.Members.{saved_hits, saved_numbers}
use Rattle.ra_member.specs.MemberRuns.{kept_by}
use Rattle.ra_member.proofs.PlanLemmas.{one_more}

module _ {X : Type 0} (numbers : X → List ℕ) (xs : List X) (k : ℕ) (x : X) (within : k < length xs)
    (is : x ≡ get_or xs k x) where
  taken : flat_map numbers (take (k + 1) xs) ≡ flat_map numbers (take k xs) ++ numbers x
  taken =
      ap (flat_map numbers) (take_more xs k x within)
      ∙ one_more numbers (take k xs) (get_or xs k x)
      ∙ ap (λ y. flat_map numbers (take k xs) ++ numbers y) (sym is)

  pub row_next : length (flat_map numbers (take (k + 1) xs))
      ≡ length (flat_map numbers (take k xs)) + length (numbers x)
  row_next = ap length taken ∙ length-append (flat_map numbers (take k xs)) (numbers x)

  pub row_within : length (flat_map numbers (take k xs)) + length (numbers x) ≤ length (flat_map numbers xs)
  row_within =
      let whole : flat_map numbers xs ≡ flat_map numbers (take (k + 1) xs)
      ++ flat_map numbers (drop (k + 1) xs) = ap (flat_map numbers) (sym (take-append-drop
      (k + 1) xs)) ∙ flat_map-append numbers (take (k + 1) xs) (drop (k + 1) xs) in
      omega (
        arith,
        ap length whole,
        length-append (flat_map numbers (take (k + 1) xs)) (flat_map numbers (drop (k + 1) xs)),
        row_next,
      )

-- the hits that tests keep, in a row
abbrev pub hits_of_tests : List TriggerRun → List ℕ
hits_of_tests tests = flat_map (λ (t : TriggerRun). t.trigger.hits) tests

-- the hits that values keep, in a row
abbrev pub hits_of_values : List ValueRun → List ℕ
hits_of_values values = flat_map (λ (v : ValueRun). v.value.hits) values

-- the numbers that values keep, in a row
abbrev pub numbers_of_values : List ValueRun → List ℕ
numbers_of_values values = flat_map (λ (v : ValueRun). v.value.numbers) values

-- what is saved of a member is what its tests and its values keep
pub hits_row : (member : Member) → saved_hits (kept_by member)
    ≡ hits_of_tests member.tests.items ++ hits_of_values member.values.items
hits_row member =
    let tests = map (λ (t : TriggerRun). t.trigger.hits) member.tests.items in
    let kept = map (λ (v : ValueRun). v.value) member.values.items in
    concat-append tests (map (λ (v : ValueKept). v.hits) kept)
    ∙ (λ i. concat_is tests i ++ concat_is (map (λ (v : ValueKept). v.hits) kept) i)
    ∙ (λ i. flat_map-map (λ (row : List ℕ). row) (λ (t : TriggerRun). t.trigger.hits)
    member.tests.items i ++ flat_map-map (λ (row : List ℕ). row) (λ (v : ValueKept). v.hits) kept i)
    ∙ ap (λ row. hits_of_tests member.tests.items ++ row)
    (flat_map-map (λ (v : ValueKept). v.hits) (λ (v : ValueRun). v.value) member.values.items)

pub numbers_row : (member : Member) → saved_numbers (kept_by member) ≡ numbers_of_values member.values.items
numbers_row member =
    let kept = map (λ (v : ValueRun). v.value) member.values.items in
    concat_is (map (λ (v : ValueKept). v.numbers) kept)
    ∙ flat_map-map (λ (row : List ℕ). row) (λ (v : ValueKept). v.numbers) kept
    ∙ flat_map-map (λ (v : ValueKept). v.numbers) (λ (v : ValueRun). v.value) member.values.items

-- how many hits are saved
pub length_hits : (member : Member) → length (saved_hits (kept_by member))
    ≡ length (hits_of_tests member.tests.items) + length (hits_of_values member.values.items)
length_hits member =
    ap length (hits_row member) ∙ length-append (hits_of_tests member.tests.items) (hits_of_values member.values.items)

pub length_numbers : (member : Member) → length (saved_numbers (kept_by member))
    ≡ length (numbers_of_values member.values.items)
length_numbers member = ap length (numbers_row member)
