use Rattle.std.proofs.Common.{◌≡◌, ℕ, List, [], ◌∷◌, ◌++◌, length, map, take, sym, ap, ap₂, ◌∙◌, arith}
use Rattle.std.proofs.lemmas.Bool.{and_from}
use Rattle.std.proofs.lemmas.List.{map_more, take_all, take-map}
use Rattle.ra_schedule.proofs.Resting.Keeping.{and_left, and_right}
use Rattle.ra_member.specs.declared.value_run.ValueRun.{ValueRun}
use Rattle.ra_schedule.specs.declared.room.ValueRoom.{ValueRoom}
use Rattle.ra_schedule.specs.Counted.{all_keep_by, counted}
use Rattle.ra_schedule.proofs.MembersRest.Judged.{bits_long, enough, free_long, judged_rows, next_bits, next_free}
use Rattle.ra_schedule.proofs.MembersRest.Judged.{next_keep, next_rest, row_long}
use Rattle.ra_schedule.proofs.member_counts.judge_values.Goals as goal

abbrev row : ValueRoom → List ℕ
row r = r.hits.items

abbrev kept : ValueRun → List ℕ
kept value = value.value.hits

abbrev room_numbers : ValueRoom → List ℕ
room_numbers r = r.numbers.items

abbrev numbers : ValueRun → List ℕ
numbers value = value.value.numbers

pub judge-stay-requires-clause-before : goal.judge-stay-requires-clause-before
judge-stay-requires-clause-before c =
    let rows = c.args.rows.now in
    let values = c.args.values.now in
    let d = c.index-rows-place.result in
    let e = c.index-values-place.result in
    ap length c.deref.ensures.value
    ∙ row_long row kept rows values c.requires.rows c.loop-place.place d e c.loop-place-test.true
    ∙ sym (ap length c.hits.ensures)

pub judge-stay-requires-clause-free : goal.judge-stay-requires-clause-free
judge-stay-requires-clause-free c =
    let p = c.loop-place in
    let e = c.index-values-place.result in
    free_long row kept c.args.rows.now c.args.values.now c.requires.rows c.args.counts.now p.counts c.requires.fit
    p.place c.index-counts-place.result c.index-rows-place.result e c.loop-place-test.true p.invariant.rest
    ∙ sym (ap length c.hits.ensures)

pub judge-stay-requires-clause-counted : goal.judge-stay-requires-clause-counted
judge-stay-requires-clause-counted c =
    let p = c.loop-place in
    let e = c.index-values-place.result in
    bits_long row kept c.args.rows.now c.args.values.now c.requires.rows c.args.counts.now p.counts c.requires.fit
    p.place c.index-counts-place.result c.index-rows-place.result e c.loop-place-test.true p.invariant.rest
    ∙ sym (ap length c.hits.ensures)

pub loop-place-preserved : goal.loop-place-preserved
loop-place-preserved c =
    let p = c.loop-place in
    let rows = c.args.rows.now in
    let values = c.args.values.now in
    let olds = c.args.counts.now in
    let r = c.index-counts-place.result in
    let d = c.index-rows-place.result in
    let e = c.index-values-place.result in
    let stay = c.judge-stay in
    let before = c.deref.ensures.value in
    let after = c.hits.ensures in
    let told = stay.ensures.counted ∙ ap₂ counted before after in
    let says = stay.ensures.keeps ∙ ap₂ (all_keep_by _) before after in
    record {
      free = next_free row kept rows values c.requires.rows olds p.counts c.requires.fit p.place r d e
          c.loop-place-test.true p.invariant.rest stay.new.self stay.ensures.free told p.invariant.free;
      bits = next_bits row kept rows values c.requires.rows olds p.counts c.requires.fit p.place r d e
          c.loop-place-test.true p.invariant.rest stay.new.self stay.ensures.free told p.invariant.bits;
      keep = λ both. next_keep row kept rows values c.requires.rows olds p.counts c.requires.fit p.place r d e
          c.loop-place-test.true p.invariant.rest p.keeps stay.result says p.invariant.keep
          (and_from p.keeps stay.result (and_left p.keeps _ both) (and_left stay.result _ (and_right p.keeps _ both)));
      numbers = λ both.
          map_more room_numbers rows p.place c.index-rows-place-in-loop-place.result
          (omega (arith, c.loop-place-test.true, enough row kept rows values c.requires.rows))
          ∙ ap₂ (λ xs x. xs ++ x ∷ []) (p.invariant.numbers (and_left p.keeps _ both))
          (sym c.deref-in-loop-place.ensures.value
          ∙ c.are_same-same.ensures (and_right stay.result _ (and_right p.keeps _ both)) ∙ c.kept.ensures)
          ∙ sym (map_more numbers values p.place c.index-values-place-in-loop-place.result c.loop-place-test.true);
      rest = next_rest row kept rows values c.requires.rows olds p.counts c.requires.fit p.place r d e
          c.loop-place-test.true p.invariant.rest stay.new.self stay.ensures.free told;
    }

pub returns-clause-hits : goal.returns-clause-hits
returns-clause-hits c =
    let p = c.loop-place in
    judged_rows row kept c.args.rows.now c.args.values.now c.requires.rows c.args.counts.now p.counts c.requires.fit
    p.place p.keeps (omega (arith, c.loop-place-test.false))
    (omega (arith, c.loop-place.auto.place-end)) p.invariant.free p.invariant.bits p.invariant.keep p.invariant.rest

pub returns-clause-numbers : goal.returns-clause-numbers
returns-clause-numbers c = λ keeps.
    let p = c.loop-place in
    let rows = c.args.rows.now in
    let values = c.args.values.now in
    let end : p.place ≡ length values = omega (arith, c.loop-place-test.false, c.loop-place.auto.place-end) in
    take-map room_numbers (length values) rows
    ∙ ap (λ n. map room_numbers (take n rows)) (sym end)
    ∙ p.invariant.numbers keeps
    ∙ ap (map numbers) (take_all p.place values (omega (arith, end)))
