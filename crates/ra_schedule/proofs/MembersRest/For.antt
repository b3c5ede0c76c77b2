-- Counts that are made for a member: there is a bit for each hit, also after a step is judged, and what is judged to
-- keep does.
use Rattle.std.proofs.Common.{◌≡◌, ℕ, ◌+◌, ◌==◌, not, true, List, [], ◌∷◌, length, map, take, slice_index, sum_by, refl}
use Rattle.std.proofs.Common.{sym, ap, ap₂, ◌∙◌, length-append, subst}
use Rattle.std.proofs.lemmas.List.{length-map, take-map}
use Rattle.std.proofs.lemmas.Simd.{map-map}
use Rattle.std.proofs.lemmas.List.FromFn.{length-map-range_with_len}
use Rattle.std.proofs.lemmas.List.Sums.{sum_by-cons}
use Rattle.ra_condition.specs.declared.condition.Condition.{Condition}
use Rattle.ra_condition.specs.Contents.{TriggerContents, PartContents, counted_in, groups_of, trigger_hits, value_hits}
use Rattle.ra_group.specs.declared.form.Form.{Form}
use Rattle.ra_group.specs.declared.form.Form.TheVariants.{InTrigger, InValue}
use Rattle.ra_value.specs.Steps.{ValueKept}
use Rattle.ra_member.specs.Members.{HasShape, MemberContents, MemberKept}
use Rattle.ra_schedule.specs.declared.member_counts.Judged.{Judged}
use Rattle.ra_schedule.specs.declared.member_counts.MemberCounts.{MemberCounts}
use Rattle.ra_member.specs.declared.value_run.ValueRun.{ValueRun}
use Rattle.ra_schedule.specs.declared.room.Room.{Room}
use Rattle.ra_schedule.specs.declared.room.ValueRoom.{ValueRoom}
use Rattle.ra_schedule.specs.Counted.{CountsFit, counted, counted_rows, free_in}
use Rattle.ra_schedule.specs.Counts.{AreFor, Holds, Judges, MayJudge, bit_rows, counts_of, free_rows, held, value_held}
use Rattle.ra_schedule.specs.Groups.{is_free}
use Rattle.ra_schedule.specs.Owing.{HaveOneShape, TestsKeep, ValuesKeep}
use Rattle.ra_schedule.proofs.MembersRest.GoesOn.{as_many, tails}
use Rattle.ra_schedule.proofs.MembersRest.Kept.{counted_sum, free_test, free_value, tests_keep, values_keep}
use Rattle.ra_schedule.proofs.MembersRest.OwedRows.{one_shape_of}

pub length-free : (form : Form) (gs : List (List Condition)) → length (free_in form gs) ≡ sum_by length gs
length-free form [] = refl
length-free form (cs ∷ gs) =
    length-append (map (is_free form) cs) (free_in form gs)
    ∙ ap₂ (λ m n. m + n) (length-map cs (is_free form)) (length-free form gs)
    ∙ sym (sum_by-cons length cs gs)

tests_long : (tests : List TriggerContents) → map length (map free_test tests) ≡ map trigger_hits tests
tests_long [] = refl
tests_long (t ∷ tests) = ap₂ (λ x xs. x ∷ xs) (length-free InTrigger (groups_of t)) (tests_long tests)

values_long : (values : List (List PartContents)) → map length (map free_value values) ≡ map value_hits values
values_long [] = refl
values_long (v ∷ values) = ap₂ (λ x xs. x ∷ xs) (length-free InValue (map counted_in v)
    ∙ sym (counted_sum v)) (values_long values)

abbrev hits : List ValueKept → List (List ℕ)
hits = map (λ (v : ValueKept). v.hits)

module _ (m : MemberContents) (c : MemberCounts) (for : AreFor m c) (kept : MemberKept) (shape : HasShape m kept) where
  free_tests : map length (free_rows c.tests.items) ≡ map length kept.tests
  free_tests = ap (map length) for.tests ∙ tests_long m.tests ∙ sym shape.tests

  free_values : map length (free_rows c.values.items) ≡ map length (hits kept.values)
  free_values = ap (map length) for.values ∙ values_long m.values ∙ sym shape.hits

  pub counts_fit : CountsFit (counts_of c) kept
  counts_fit = record { tests = for.test_bits ∙ free_tests; values = for.value_bits ∙ free_values }

  -- a room that holds what a member kept holds it still
  pub held_again : (room : Room) (old : MemberKept) → HasShape m old → Holds room old → held room kept ≡ old
  held_again room old old_shape holds =
      let tests : length kept.tests ≡ length old.tests = as_many kept.tests m.tests trigger_hits
      shape.tests ∙ sym (as_many old.tests m.tests trigger_hits old_shape.tests) in
      let values : length kept.values ≡ length old.values =
      sym (length-map kept.values (λ (v : ValueKept). v.hits))
      ∙ as_many (hits kept.values) m.values value_hits shape.hits
      ∙ sym (sym (length-map old.values (λ (v : ValueKept). v.hits))
      ∙ as_many (hits old.values) m.values value_hits old_shape.hits) in
      (λ i. record {
        tests = take (tests i) (map (λ row. row.items) room.tests.items);
        values = take (values i) (map value_held room.values.items);
      })
      ∙ holds.is

  -- a member may be judged by a room that holds what it kept
  pub may_judge : (room : Room) (old : MemberKept) → HasShape m old → Holds room old → MayJudge c room kept
  may_judge room old old_shape holds = record {
    shape = subst (λ (k : MemberKept). HaveOneShape k kept)
        (sym (held_again room old old_shape holds)) (one_shape_of m old kept old_shape shape);
    tests = record { bits = counts_fit.tests; free = free_tests };
    values = record { bits = counts_fit.values; free = free_values };
  }

length-counted : (before after : List ℕ) → length (counted before after) ≡ length after
length-counted before after =
    length-map-range_with_len (λ j. not (slice_index after j == slice_index before j)) 0 (length after)

none : (x : ℕ) (xs : List ℕ) → x ∷ xs ≡ [] → ⊥
none x xs same = cc

counted_long : (befores afters : List (List ℕ)) → map length befores ≡ map length afters
    → map length (counted_rows befores afters) ≡ map length afters
counted_long [] [] long = refl
counted_long [] (after ∷ afters) long = absurd (none (length after) (map length afters) (sym long))
counted_long (before ∷ befores) [] long = absurd (none (length before) (map length befores) long)
counted_long (before ∷ befores) (after ∷ afters) long =
    ap₂ (λ x xs. x ∷ xs) (length-counted before after) (counted_long befores afters
    (tails (length before) (length after) (map length befores) (map length afters) long))

module _ (m : MemberContents) (old new : MemberCounts) (before after : MemberKept) (result : Judged)
    (for : AreFor m old)
    (shape : HasShape m before) (shape_too : HasShape m after) (judges : Judges old new before after result) where
  same_tests : map length (bit_rows new.tests.items) ≡ map length (free_rows new.tests.items)
  same_tests =
      ap (map length) judges.tests.bits ∙ counted_long before.tests after.tests (shape.tests ∙ sym shape_too.tests)
      ∙ sym (free_tests m old for after shape_too) ∙ sym (ap (map length) judges.tests.free)

  same_values : map length (bit_rows new.values.items) ≡ map length (free_rows new.values.items)
  same_values =
      ap (map length) judges.values.bits
      ∙ counted_long (hits before.values) (hits after.values) (shape.hits ∙ sym shape_too.hits)
      ∙ sym (free_values m old for after shape_too) ∙ sym (ap (map length) judges.values.free)

  -- the counts are for the member still
  pub judged_for : AreFor m new
  judged_for = record {
    tests = judges.tests.free ∙ for.tests;
    values = judges.values.free ∙ for.values;
    test_bits = same_tests;
    value_bits = same_values;
  }

  rows_many : (kept : MemberKept) → HasShape m kept → length kept.values ≡ length m.values
  rows_many kept fits = sym (length-map kept.values (λ (v : ValueKept). v.hits))
      ∙ as_many (hits kept.values) m.values value_hits fits.hits

  pub judged_tests : result.tests ≡ true → TestsKeep m.tests before.tests after.tests
  judged_tests kept =
      tests_keep m.tests (free_rows old.tests.items) before.tests after.tests for.tests
      (as_many before.tests m.tests trigger_hits shape.tests
      ∙ sym (as_many after.tests m.tests trigger_hits shape_too.tests)) shape_too.tests
      (judges.tests.keep kept)

  pub judged_values : result.values ≡ true → ValuesKeep m.values before.values after.values
  judged_values kept =
      values_keep m.values (free_rows old.values.items) before.values after.values for.values
      (rows_many before shape ∙ sym (rows_many after shape_too)) shape_too.hits
      (judges.numbers kept) (judges.values.keep kept)

-- what a room holds of values, of one kind
pub taken_held : (f : ValueKept → List ℕ) (rows : List ValueRoom) (values : List ValueRun)
    → map f (take (length (map (λ (v : ValueRun). v.value) values)) (map value_held rows))
    ≡ take (length values) (map (λ (r : ValueRoom). f (value_held r)) rows)
taken_held f rows values =
    sym (take-map f (length (map (λ (v : ValueRun). v.value) values)) (map value_held rows))
    ∙ ap (take (length (map (λ (v : ValueRun). v.value) values))) (map-map f value_held rows)
    ∙ ap (λ n. take n (map (λ (r : ValueRoom). f (value_held r)) rows)) (length-map values (λ (v : ValueRun). v.value))
