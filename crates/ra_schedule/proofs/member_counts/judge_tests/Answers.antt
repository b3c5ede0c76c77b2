use Rattle.std.proofs.Common.{ℕ, List, length, sym, ap, ap₂, ◌∙◌, arith, Vec, Global}
use Rattle.ra_member.specs.declared.trigger_run.TriggerRun.{TriggerRun}
use Rattle.ra_schedule.specs.Counted.{all_keep_by, counted}
use Rattle.ra_schedule.proofs.MembersRest.Judged.{bits_long, free_long, judged_rows, next_bits, next_free, next_keep}
use Rattle.ra_schedule.proofs.MembersRest.Judged.{next_rest, row_long}
use Rattle.ra_schedule.proofs.member_counts.judge_tests.Goals as goal

abbrev row : Vec ℕ Global → List ℕ
row r = r.items

abbrev kept : TriggerRun → List ℕ
kept test = test.trigger.hits

pub judge-stay-requires-clause-before : goal.judge-stay-requires-clause-before
judge-stay-requires-clause-before c =
    let rows = c.args.rows.now in
    let tests = c.args.tests.now in
    let d = c.index-rows-place.result in
    let e = c.index-tests-place.result in
    ap length (c.deref.ensures.value ∙ ap row c.index-rows-place.is)
    ∙ row_long row kept rows tests c.requires.rows c.loop-place.place d e c.loop-place-test.true
    ∙ sym (ap length c.hits.ensures)

pub judge-stay-requires-clause-free : goal.judge-stay-requires-clause-free
judge-stay-requires-clause-free c =
    let p = c.loop-place in
    let e = c.index-tests-place.result in
    free_long row kept c.args.rows.now c.args.tests.now c.requires.rows c.args.counts.now p.counts
    c.requires.fit p.place c.index-counts-place.result c.index-rows-place.result e
    c.loop-place-test.true p.invariant.rest
    ∙ sym (ap length c.hits.ensures)

pub judge-stay-requires-clause-counted : goal.judge-stay-requires-clause-counted
judge-stay-requires-clause-counted c =
    let p = c.loop-place in
    let e = c.index-tests-place.result in
    bits_long row kept c.args.rows.now c.args.tests.now c.requires.rows c.args.counts.now p.counts
    c.requires.fit p.place c.index-counts-place.result c.index-rows-place.result e
    c.loop-place-test.true p.invariant.rest
    ∙ sym (ap length c.hits.ensures)

pub loop-place-preserved : goal.loop-place-preserved
loop-place-preserved c =
    let p = c.loop-place in
    let rows = c.args.rows.now in
    let tests = c.args.tests.now in
    let olds = c.args.counts.now in
    let r = c.index-counts-place.result in
    let d = c.index-rows-place.result in
    let e = c.index-tests-place.result in
    let stay = c.judge-stay in
    let before = c.deref.ensures.value ∙ ap row c.index-rows-place.is in
    let after = c.hits.ensures in
    let told = stay.ensures.counted ∙ ap₂ counted before after in
    let says = stay.ensures.keeps ∙ ap₂ (all_keep_by _) before after in
    record {
      free = next_free row kept rows tests c.requires.rows olds p.counts c.requires.fit p.place r d
          e c.loop-place-test.true p.invariant.rest stay.new.self stay.ensures.free told
          p.invariant.free;
      bits = next_bits row kept rows tests c.requires.rows olds p.counts c.requires.fit p.place r d
          e c.loop-place-test.true p.invariant.rest stay.new.self stay.ensures.free told
          p.invariant.bits;
      keep = next_keep row kept rows tests c.requires.rows olds p.counts c.requires.fit p.place r d
          e c.loop-place-test.true p.invariant.rest p.keeps stay.result says p.invariant.keep;
      rest = next_rest row kept rows tests c.requires.rows olds p.counts c.requires.fit p.place r d
          e c.loop-place-test.true p.invariant.rest stay.new.self stay.ensures.free told;
    }

pub returns : goal.returns
returns c =
    let p = c.loop-place in
    judged_rows row kept c.args.rows.now c.args.tests.now c.requires.rows c.args.counts.now p.counts
    c.requires.fit p.place p.keeps (omega (arith, c.loop-place-test.false))
    (omega (arith, c.loop-place.auto.place-end)) p.invariant.free p.invariant.bits p.invariant.keep
    p.invariant.rest
