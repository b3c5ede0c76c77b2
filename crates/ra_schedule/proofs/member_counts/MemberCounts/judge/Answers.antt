use Rattle.std.proofs.Common.{◌≡◌, ℕ, ◌++◌, List, length, drop, map, take, sym, ◌∙◌, ap, arith, Vec, Global}
use Rattle.std.proofs.Math.Path.{transport}
use Rattle.std.proofs.lemmas.List.{length-map, take-append-le, take_all}
use Rattle.std.proofs.lemmas.Simd.{map-map}
use Rattle.ra_value.specs.Steps.{ValueKept}
use Rattle.ra_member.specs.declared.trigger_run.TriggerRun.{TriggerRun}
use Rattle.ra_member.specs.declared.value_run.ValueRun.{ValueRun}
use Rattle.ra_schedule.specs.Counted.{CountsSeen}
use Rattle.ra_schedule.specs.declared.room.ValueRoom.{ValueRoom}
use Rattle.ra_schedule.specs.Counts.{FitRows, JudgesRows}
use Rattle.ra_schedule.proofs.MembersRest.For.{taken_held}
use Rattle.ra_schedule.proofs.member_counts.MemberCounts.judge.Goals as goal

abbrev room_hits : ValueRoom → List ℕ
room_hits r = r.hits.items

abbrev room_numbers : ValueRoom → List ℕ
room_numbers r = r.numbers.items

abbrev value_hits : ValueRun → List ℕ
value_hits v = v.value.hits

abbrev value_numbers : ValueRun → List ℕ
value_numbers v = v.value.numbers

abbrev hits : ValueKept → List ℕ
hits v = v.hits

abbrev numbers : ValueKept → List ℕ
numbers v = v.numbers

abbrev kept : ValueRun → ValueKept
kept v = v.value

pub judge_values-requires-clause-rows : goal.judge_values-requires-clause-rows
judge_values-requires-clause-rows c =
    let rows = c.args.room.now.values.items in
    let values = c.args.member.now.values.items in
    (λ i. map length (take (length (c.deref-4.ensures.value i)) (map room_hits (c.deref-3.ensures.value i))))
    ∙ ap (map length) (sym (taken_held hits rows values))
    ∙ c.requires.shape.hits
    ∙ ap (map length) (map-map hits kept values)
    ∙ sym (ap (λ (vs : List ValueRun). map length (map value_hits vs)) c.deref-4.ensures.value)

pub judge_values-requires-clause-fit : goal.judge_values-requires-clause-fit
judge_values-requires-clause-fit c =
    let values = c.args.member.now.values.items in
    transport
    (λ i. FitRows (sym c.deref_mut-2.ensures.value i)
    ((map-map hits kept values ∙ sym (ap (map value_hits) c.deref-4.ensures.value)) i))
    c.requires.values

-- counts that are written back whole
written : (n : ℕ) (new olds : List CountsSeen) → length new ≡ n → take n (new ++ drop (length new) olds) ≡ new
written n new olds long = take-append-le n new (drop (length new) olds) (omega (arith, long))
    ∙ take_all n new (omega (arith, long))

pub returns : goal.returns
returns c =
    let tests = c.args.member.now.tests.items in
    let values = c.args.member.now.values.items in
    let room = c.args.room.now in
    let tests_back = written c.args.self.now.tests.len c.judge_tests.new.counts
    c.args.self.now.tests.items
    (omega (arith, c.judge_tests.auto.counts, c.deref_mut.ensures.len)) in
    let values_back = written c.args.self.now.values.len c.judge_values.new.counts
    c.args.self.now.values.items
    (omega (arith, c.judge_values.auto.counts, c.deref_mut-2.ensures.len)) in
    record {
      tests = transport
          (λ i. JudgesRows (c.deref_mut.ensures.value i) (sym tests_back i)
          (((λ j. take (length (c.deref-2.ensures.value j))
          (map (λ (row : Vec ℕ Global). row.items) (c.deref.ensures.value j)))
          ∙ ap (λ n. take n (map (λ (row : Vec ℕ Global). row.items) room.tests.items))
          (sym (length-map tests (λ (test : TriggerRun). test.trigger.hits)))) i)
          (map (λ (test : TriggerRun). test.trigger.hits) (c.deref-2.ensures.value i)) c.judge_tests.result)
          c.judge_tests.ensures;
      values = transport
          (λ i. JudgesRows (c.deref_mut-2.ensures.value i) (sym values_back i)
          (((λ j. take (length (c.deref-4.ensures.value j)) (map room_hits
          (c.deref-3.ensures.value j))) ∙ sym (taken_held hits room.values.items values)) i)
          ((ap (map value_hits) c.deref-4.ensures.value ∙ sym (map-map hits kept values)) i) c.judge_values.result)
          c.judge_values.ensures.hits;
      numbers = λ holds.
          taken_held numbers room.values.items values
          ∙ sym (λ j. take (length (c.deref-4.ensures.value j)) (map room_numbers (c.deref-3.ensures.value j)))
          ∙ c.judge_values.ensures.numbers holds
          ∙ ap (map value_numbers) c.deref-4.ensures.value
          ∙ sym (map-map numbers kept values);
    }
