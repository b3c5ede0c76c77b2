-- The rows of a member as they are seen, those of the tests and then those of the values.
use Rattle.std.proofs.Common.{◌≡◌, ℕ, Option, None, Some, List, [], ◌∷◌, ◌++◌, length, map, refl, sym, ◌∙◌, ap, arith}
use Rattle.std.proofs.Common.{append_assoc, length-append}
use Rattle.std.specs.List.{concat}
use Rattle.std.proofs.lemmas.Simd.{map-map}
use Rattle.ra_value.specs.Steps.{ValueKept}
use Rattle.ra_member.specs.declared.member.Member.{Member}
use Rattle.ra_member.specs.declared.trigger_run.TriggerRun.{TriggerRun}
use Rattle.ra_member.specs.declared.value_run.ValueRun.{ValueRun}
use Rattle.ra_member.specs.Members.{saved_hits, saved_numbers}
use Rattle.ra_member.specs.MemberRuns.{kept_by}
use Rattle.ra_schedule.specs.declared.member_counts.MemberCounts.{MemberCounts}
use Rattle.ra_schedule.specs.Counted.{CountsFit, owed_rows_by}
use Rattle.ra_schedule.specs.Counts.{counts_of}
use Rattle.ra_schedule.proofs.MembersRest.Counted.{owed_hit_rows}
use Rattle.ra_display.specs.Keeping.{HasWords, PutsWords, seen_rows}
use Rattle.ra_display.specs.LineRests.{seen_line}
use Rattle.ra_display.proofs.Putting.{concat_long, room_behind, rows_long}

abbrev pub test_hits : Member → List (List ℕ)
test_hits m = map (λ (test : TriggerRun). test.trigger.hits) m.tests.items

abbrev pub value_hits : Member → List (List ℕ)
value_hits m = map (λ (value : ValueRun). value.value.hits) m.values.items

abbrev pub value_numbers : Member → List (List ℕ)
value_numbers m = map (λ (value : ValueRun). value.value.numbers) m.values.items

-- rows one after another
pub concat_both : (xs ys : List (List ℕ)) → concat (xs ++ ys) ≡ concat xs ++ concat ys
concat_both [] ys = refl
concat_both (x ∷ xs) ys = ap (λ zs. x ++ zs) (concat_both xs ys) ∙ sym (append_assoc x (concat xs) (concat ys))

kept_hits : (m : Member) → map (λ (v : ValueKept). v.hits) (kept_by m).values ≡ value_hits m
kept_hits m = map-map (λ (v : ValueKept). v.hits) (λ (value : ValueRun). value.value) m.values.items

-- the hits of a member in a row
pub hits_in_row : (m : Member) → saved_hits (kept_by m) ≡ concat (test_hits m) ++ concat (value_hits m)
hits_in_row m = concat_both (test_hits m) (map (λ (v : ValueKept). v.hits) (kept_by m).values)
    ∙ ap (λ xs. concat (test_hits m) ++ concat xs) (kept_hits m)

pub numbers_in_row : (m : Member) → saved_numbers (kept_by m) ≡ concat (value_numbers m)
numbers_in_row m = ap concat (map-map (λ (v : ValueKept). v.numbers) (λ (value : ValueRun). value.value) m.values.items)

-- the hits of a member as they are seen
pub seen_in_row : (m : Member) (c : MemberCounts) (owed : Option ℕ)
    → saved_hits (seen_line m c owed) ≡ concat (seen_rows owed (counts_of c).tests (test_hits m))
    ++ concat (seen_rows owed (counts_of c).values (value_hits m))
seen_in_row m c None = hits_in_row m
seen_in_row m c (Some n) =
    let tests = owed_rows_by n (counts_of c).tests (test_hits m) in
    let values = owed_hit_rows n (counts_of c).values (kept_by m).values
    ∙ ap (owed_rows_by n (counts_of c).values) (kept_hits m) in
    concat_both tests (map (λ (v : ValueKept). v.hits) (seen_line m c (Some n)).values)
    ∙ ap (λ xs. concat tests ++ concat xs) values

-- there is a bit for each hit of the values
pub values_long : (m : Member) (c : MemberCounts) → CountsFit (counts_of c) (kept_by m)
    → map length (counts_of c).values ≡ map length (value_hits m)
values_long m c fit = fit.values ∙ ap (map length) (kept_hits m)

-- there is room for the tests, and the values after them
pub room_tests : (m : Member) (row : List ℕ) (at : ℕ) → HasWords row at (saved_hits (kept_by m))
    → HasWords row at (concat (test_hits m))
room_tests m row at room =
    omega (arith, room, ap length (hits_in_row m), length-append (concat (test_hits m)) (concat (value_hits m)))

pub room_values : (m : Member) (c : MemberCounts) (owed : Option ℕ) (old mid : List ℕ)
    (at behind : ℕ) → CountsFit (counts_of c) (kept_by m) → HasWords old at (saved_hits (kept_by m))
    → PutsWords old mid at behind (concat (seen_rows owed (counts_of c).tests (test_hits m)))
    → HasWords mid behind (concat (value_hits m))
room_values m c owed old mid at behind fit room put =
    let tests = seen_rows owed (counts_of c).tests (test_hits m) in
    let long : length (concat tests) ≡ length (concat (test_hits m)) =
    concat_long tests (test_hits m) (rows_long owed (counts_of c).tests (test_hits m) fit.tests) in
    room_behind old mid at behind (concat tests) (length (concat (test_hits m)))
    (length (concat (value_hits m))) long
    (omega (arith, room, ap length (hits_in_row m), length-append (concat (test_hits m)) (concat (value_hits m)))) put
