-- What is kept of a member has the counts of its texts, at every history.
use Rattle.std.proofs.Common.{◌≡◌, ℕ, Bool, true, false, if◌then◌else◌, List, [], ◌∷◌, length, map, take, drop}
use Rattle.std.proofs.Common.{replicate, sum, sum_by, slice_index, refl, sym, ◌∙◌, ap, ap₂, length-append, suc}
use Rattle.std.specs.List.{flat_map, list_any}
use Rattle.std.proofs.lemmas.List.{length-map, length-replicate}
use Rattle.std.proofs.lemmas.List.FromFn.{length-range_with_len}
use Rattle.std.proofs.lemmas.List.Sums.{sum_by-cons}
use Rattle.ra_condition.specs.declared.condition.Condition.{Condition}
use Rattle.ra_condition.specs.Contents.{TriggerContents, groups_of, trigger_hits, PartContents, Legacy, Grouped}
use Rattle.ra_condition.specs.Contents.{counted_in, value_hits}
use Rattle.ra_condition.specs.Chains.{places}
use Rattle.ra_memory.specs.Image.{History}
use Rattle.ra_indirect.specs.declared.node.Node.{Node}
use Rattle.ra_group.specs.Equations.{Frame, frame_of}
use Rattle.ra_group.specs.Outcome.{next_hit, next_hits}
use Rattle.ra_memref.specs.Values.{Start}
use Rattle.ra_trigger.specs.Steps.{frames_along, together, cleared, hits_after_truth}
use Rattle.ra_value.specs.Steps.{ValueKept, PartStep, part_step, part_steps, number_after, step as value_step}
use Rattle.ra_member.specs.declared.member.Member.{Member}
use Rattle.ra_member.specs.declared.trigger_run.TriggerRun.{TriggerRun}
use Rattle.ra_member.specs.declared.value_run.ValueRun.{ValueRun}
use Rattle.ra_member.specs.Beside.{AreBeside}
use Rattle.ra_member.specs.Frames.{truths_at, lefts_at, sum_at, value_next}
use Rattle.ra_member.specs.Members.{MemberContents, MemberKept, HasShape, HaveShapes, no_hits, no_values, no_member}
use Rattle.ra_member.specs.Members.{tests_next, values_next, member_next, members_next}
use Rattle.ra_member.specs.MemberRuns.{IsMember, kept_by}
use Rattle.ra_member.specs.Runs.{IsTriggerRun, IsValueRun}

length_next : (f : Frame) → length (next_hits f) ≡ length f.conditions
length_next f = length-map (places f.conditions) (next_hit f) ∙ length-range_with_len 0 (length f.conditions)

length_frames : (groups : List (List Condition)) (truths : List Bool) (lefts hits : List ℕ)
    → length (flat_map next_hits (frames_along groups truths lefts hits)) ≡ sum_by length groups
length_frames [] truths lefts hits = refl
length_frames (cs ∷ groups) truths lefts hits =
    let f : Frame = frame_of cs (take (length cs) truths) (take (length cs) lefts) (take (length cs) hits) in
    let rest : List Frame = frames_along groups (drop (length cs) truths) (drop (length cs) lefts)
    (drop (length cs) hits) in
    length-append (next_hits f) (flat_map next_hits rest)
    ∙ rw (
      length_next f,
      length_frames groups (drop (length cs) truths) (drop (length cs) lefts) (drop (length cs) hits),
    ) (sym (sum_by-cons length cs groups))

pub length_truth : (t : TriggerContents) (truths : List Bool) (lefts hits : List ℕ)
    → length (hits_after_truth t truths lefts hits) ≡ trigger_hits t
length_truth t truths lefts hits =
    let long : length (together t truths lefts hits).hits ≡ trigger_hits t =
    length_frames (groups_of t) truths lefts hits in
    elim (together t truths lefts hits).reset as (λ b. length (if b then cleared (together t truths
    lefts hits).hits else (together t truths lefts hits).hits) ≡ trigger_hits t) [
      | true ↦ length-replicate (length (together t truths lefts hits).hits) 0 ∙ long
      | false ↦ long
    ]

-- a value keeps a hit for each condition and a number for each part
pub record ValueFits (parts : List PartContents) (kept : ValueKept) : Type 0 where
  pub hits : length kept.hits ≡ value_hits parts
  pub numbers : length kept.numbers ≡ length parts

length_part : (part : PartContents) (f : Frame) (sum old : ℕ) → f.conditions ≡ counted_in part
    → length (part_step part f sum old).hits ≡ length (counted_in part)
length_part (Legacy terms) f sum old e = refl
length_part (Grouped cs) f sum old e = length_next f ∙ ap length e

length_hits : (parts : List PartContents) (truths : List Bool) (lefts hits sums numbers : List ℕ)
    → length (flat_map (λ part. part.hits) (part_steps parts truths lefts hits sums numbers))
    ≡ value_hits parts
length_hits [] truths lefts hits sums numbers = refl
length_hits (part ∷ parts) truths lefts hits sums numbers =
    let cs : List Condition = counted_in part in
    let f : Frame = frame_of cs (take (length cs) truths) (take (length cs) lefts) (take (length cs) hits) in
    let first : PartStep = part_step part f (slice_index sums 0) (slice_index numbers 0) in
    let rest : List PartStep = part_steps parts (drop (length cs) truths) (drop (length cs) lefts)
    (drop (length cs) hits) (drop 1 sums) (drop 1 numbers) in
    length-append first.hits (flat_map (λ (p : PartStep). p.hits) rest)
    ∙ rw (
      length_part part f (slice_index sums 0) (slice_index numbers 0) refl,
      length_hits parts (drop (length cs) truths) (drop (length cs) lefts) (drop (length cs) hits)
          (drop 1 sums) (drop 1 numbers),
    ) (sym (sum_by-cons (λ p. length (counted_in p)) part parts))

length_steps : (parts : List PartContents) (truths : List Bool) (lefts hits sums numbers : List ℕ)
    → length (part_steps parts truths lefts hits sums numbers) ≡ length parts
length_steps [] truths lefts hits sums numbers = refl
length_steps (part ∷ parts) truths lefts hits sums numbers =
    let n : ℕ = length (counted_in part) in
    ap suc (length_steps parts (drop n truths) (drop n lefts) (drop n hits) (drop 1 sums) (drop 1 numbers))

pub step_fits : (parts : List PartContents) (truths : List Bool) (lefts sums : List ℕ)
    (old : ValueKept) → ValueFits parts (value_step parts truths lefts sums old)
step_fits parts truths lefts sums old =
    let steps : List PartStep = part_steps parts truths lefts old.hits sums old.numbers in
    let long : length (flat_map (λ (p : PartStep). p.hits) steps) ≡ value_hits parts =
    length_hits parts truths lefts old.hits sums old.numbers in
    record {
      hits = elim (list_any (λ (p : PartStep). p.reset) steps) as
          (λ b. length (if b then replicate (length (flat_map (λ (p : PartStep). p.hits) steps)) 0
          else flat_map (λ (p : PartStep). p.hits) steps) ≡ value_hits parts) [
            | true ↦ length-replicate (length (flat_map (λ (p : PartStep). p.hits) steps)) 0 ∙ long
            | false ↦ long
          ];
      numbers = length-map steps (number_after (list_any (λ (p : PartStep). p.reset) steps))
          ∙ length_steps parts truths lefts old.hits sums old.numbers;
    }

-- the hits of tests, each as long as its text says
abbrev pub AreTestsLong : List TriggerContents → List (List ℕ) → Type 0
AreTestsLong tests hits = map length hits ≡ map trigger_hits tests

-- values, each with the counts of its text
pub record AreValuesLong (values : List (List PartContents)) (kept : List ValueKept) : Type 0 where
  pub hits : map length (map (λ (v : ValueKept). v.hits) kept) ≡ map value_hits values
  pub numbers : map length (map (λ (v : ValueKept). v.numbers) kept) ≡ map length values

rest_long : (m n : ℕ) (ms ns : List ℕ) → m ∷ ms ≡ n ∷ ns → ms ≡ ns
rest_long m n ms ns same = cc

none_long : (n : ℕ) (ns : List ℕ) → [] ≡ n ∷ ns → ⊥
none_long n ns same = cc

rest_values : (v : List PartContents) (values : List (List PartContents)) (k : ValueKept)
    (kept : List ValueKept) → AreValuesLong (v ∷ values) (k ∷ kept) → AreValuesLong values kept
rest_values v values k kept long = record {
  hits = rest_long (length k.hits) (value_hits v)
      (map length (map (λ (w : ValueKept). w.hits) kept)) (map value_hits values) long.hits;
  numbers = rest_long (length k.numbers) (length v)
      (map length (map (λ (w : ValueKept). w.numbers) kept)) (map length values) long.numbers;
}

module _ (start : Start) (history : History) where
  pub tests_long : (tests : List TriggerContents) (hits : List (List ℕ)) → AreTestsLong tests hits
      → AreTestsLong tests (tests_next start tests history hits)
  tests_long [] hits long = refl
  tests_long (t ∷ tests) [] long = absurd (none_long (trigger_hits t) (map trigger_hits tests) long)
  tests_long (t ∷ tests) (k ∷ hits) long =
      ap₂ (λ n ns. n ∷ ns) (length_truth t (truths_at start history (groups_of t))
      (lefts_at start history (groups_of t)) k)
      (tests_long tests hits (rest_long (length k) (trigger_hits t) (map length hits) (map trigger_hits tests) long))

  value_long : (parts : List PartContents) (kept : ValueKept) → ValueFits parts (value_next start parts history kept)
  value_long parts kept =
      step_fits parts (truths_at start history (map counted_in parts))
      (lefts_at start history (map counted_in parts)) (map (sum_at start history) parts) kept

  pub values_long : (values : List (List PartContents)) (kept : List ValueKept)
      → AreValuesLong values kept → AreValuesLong values (values_next start values history kept)
  values_long [] kept long = record { hits = refl; numbers = refl }
  values_long (v ∷ values) [] long = absurd (none_long (value_hits v) (map value_hits values) long.hits)
  values_long (v ∷ values) (k ∷ kept) long =
      let one = value_long v k in
      let more = values_long values kept (rest_values v values k kept long) in
      record { hits = ap₂ (λ n ns. n ∷ ns) one.hits more.hits; numbers = ap₂ (λ n ns. n ∷ ns) one.numbers more.numbers }

-- a member of tests and values that are long enough
pub shape_of : (m : MemberContents) (tests : List (List ℕ)) (values : List ValueKept)
    → AreTestsLong m.tests tests → AreValuesLong m.values values
    → HasShape m (record { tests = tests; values = values })
shape_of m tests values long long_too = record { tests = long; hits = long_too.hits; numbers = long_too.numbers }

pub values_in_shape : (m : MemberContents) (kept : MemberKept) → HasShape m kept → AreValuesLong m.values kept.values
values_in_shape m kept shape = record { hits = shape.hits; numbers = shape.numbers }

-- values that begin anew
pub no_values_long : (values : List (List PartContents)) → AreValuesLong values (no_values values)
no_values_long [] = record { hits = refl; numbers = refl }
no_values_long (v ∷ values) =
    let rest = no_values_long values in
    record {
      hits = ap₂ (λ n ns. n ∷ ns) (length-replicate (value_hits v) 0) rest.hits;
      numbers = ap₂ (λ n ns. n ∷ ns) (length-replicate (length v) 0) rest.numbers;
    }

no_tests_long : (tests : List TriggerContents) → AreTestsLong tests (map no_hits tests)
no_tests_long [] = refl
no_tests_long (t ∷ tests) = ap₂ (λ n ns. n ∷ ns) (length-replicate (trigger_hits t) 0) (no_tests_long tests)

-- what a new member keeps
pub no_member_shape : (m : MemberContents) → HasShape m (no_member m)
no_member_shape m = shape_of m (map no_hits m.tests) (no_values m.values) (no_tests_long m.tests)
    (no_values_long m.values)

-- a member of which all is stepped
pub next_shape : (start : Start) (m : MemberContents) (history : History) (kept : MemberKept)
    → HasShape m kept → HasShape m (member_next start m history kept)
next_shape start m history kept shape =
    shape_of m (tests_next start m.tests history kept.tests) (values_next start m.values history kept.values)
    (tests_long start history m.tests kept.tests shape.tests)
    (values_long start history m.values kept.values (values_in_shape m kept shape))

-- members beside each other
pub members_fit : (start : Start) (members : List MemberContents) (history : History)
    (kept : List MemberKept) → HaveShapes members kept
    → HaveShapes members (members_next start members history kept)
members_fit start [] history [] fits = tt
members_fit start [] history (k ∷ kept) fits = absurd fits
members_fit start (m ∷ members) history [] fits = absurd fits
members_fit start (m ∷ members) history (k ∷ kept) fits =
    (next_shape start m history k fits.0, members_fit start members history kept fits.1)

-- what a member with its plans keeps
module _ (nodes : List Node) where
  runs_tests : (tests : List TriggerContents) (runs : List TriggerRun) → AreBeside (IsTriggerRun
      nodes) tests runs → AreTestsLong tests (map (λ (t : TriggerRun). t.trigger.hits) runs)
  runs_tests [] [] are = refl
  runs_tests [] (run ∷ runs) are = absurd are
  runs_tests (t ∷ tests) [] are = absurd are
  runs_tests (t ∷ tests) (run ∷ runs) are = ap₂ (λ n ns. n ∷ ns) are.0.hits (runs_tests tests runs are.1)

  runs_values : (values : List (List PartContents)) (runs : List ValueRun) → AreBeside
      (IsValueRun nodes) values runs → AreValuesLong values (map (λ (v : ValueRun). v.value) runs)
  runs_values [] [] are = record { hits = refl; numbers = refl }
  runs_values [] (run ∷ runs) are = absurd are
  runs_values (v ∷ values) [] are = absurd are
  runs_values (v ∷ values) (run ∷ runs) are =
      let rest = runs_values values runs are.1 in
      record {
        hits = ap₂ (λ n ns. n ∷ ns) are.0.hits rest.hits;
        numbers = ap₂ (λ n ns. n ∷ ns) are.0.numbers rest.numbers;
      }

  pub member_shape : (m : MemberContents) (member : Member) → IsMember nodes m member → HasShape m (kept_by member)
  member_shape m member is =
      shape_of m (map (λ (t : TriggerRun). t.trigger.hits) member.tests.items)
      (map (λ (v : ValueRun). v.value) member.values.items) (runs_tests m.tests
      member.tests.items is.tests) (runs_values m.values member.values.items is.values)
