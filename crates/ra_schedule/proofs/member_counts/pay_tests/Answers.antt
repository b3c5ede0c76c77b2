use Rattle.std.proofs.Common.{◌≡◌, ℕ, ◌<◌, Bool, List, length, get_or, sym, ◌∙◌, ap, ap₂, arith}
use Rattle.ra_schedule.specs.Counted.{CountsSeen, owed_by}
use Rattle.ra_schedule.proofs.MembersRest.Counted.{length-owed_by}
use Rattle.ra_trigger.specs.Lends.{with_hits}
use Rattle.ra_trigger.specs.Steps.{TriggerKept}
use Rattle.ra_trigger.proofs.HitsLemmas.{with_hits_is}
use Rattle.ra_member.specs.declared.trigger_run.TriggerRun.{TriggerRun}
use Rattle.ra_member.specs.Runs.{IsTriggerRun}
use Rattle.ra_member.proofs.PutBackLemmas.{rest_next}
use Rattle.ra_member.proofs.SideBySide.{beside_set}
use Rattle.ra_schedule.proofs.MembersRest.SideBySideRows.{same_at, as_long, as_many, paid_next}
use Rattle.ra_schedule.proofs.member_counts.pay_tests.Goals as goal

abbrev items : CountsSeen → List Bool
items row = row.counted

abbrev hits : TriggerRun → List ℕ
hits test = test.trigger.hits

pub pay-requires : goal.pay-requires
pay-requires c =
    let p = c.loop-place in
    let olds = c.args.tests.now in
    let d = c.index-rows-place.result in
    let e = c.index-tests-place.result in
    let within : p.place < length c.args.rows.now = omega (arith, as_many items hits c.args.rows.now olds c.requires) in
    ap length (c.counted.ensures ∙ ap items c.index-rows-place.is)
    ∙ as_long items hits c.args.rows.now olds p.place d e within c.requires
    ∙ ap (λ (test : TriggerRun). length test.trigger.hits) (sym (same_at p.tests olds p.place e p.invariant.rest))
    ∙ sym (ap length c.hits_mut.ensures.hits)

pub loop-place-preserved : goal.loop-place-preserved
loop-place-preserved c =
    let p = c.loop-place in
    let rows = c.args.rows.now in
    let olds = c.args.tests.now in
    let frames = c.args.frames in
    let d = c.index-rows-place.result in
    let e = c.index-tests-place.result in
    let old : TriggerRun = get_or p.tests p.place e in
    let row = c.counted.ensures ∙ ap items c.index-rows-place.is in
    let is : c.pay.new.hits ≡ owed_by frames (get_or rows p.place d).counted old.trigger.hits =
    c.pay.ensures ∙ ap₂ (owed_by frames) row c.hits_mut.ensures.hits in
    let many : length c.pay.new.hits ≡ length old.trigger.hits =
    ap length is ∙ length-owed_by frames (get_or rows p.place d).counted old.trigger.hits in
    let new : TriggerRun = record old { trigger = with_hits old.trigger c.pay.new.hits } in
    let whole : new.trigger.hits ≡ c.pay.new.hits =
    ap (λ (k : TriggerKept). k.hits) (with_hits_is old.trigger c.pay.new.hits many) in
    let within : p.place < length olds = omega arith in
    let within_too : p.place < length p.tests = omega arith in
    record {
      stay = λ nodes tests are. beside_set (IsTriggerRun nodes) tests p.tests p.place e new within_too
          (λ t run. record {
            laid = run.laid;
            hits = ap length whole ∙ many ∙ run.hits;
          }) (p.invariant.stay nodes tests are);
      paid = paid_next items hits (λ (q : List Bool × List ℕ). owed_by frames q.0 q.1) rows olds p.tests p.place d e
          (as_many items hits rows olds c.requires) within within_too p.invariant.rest new
          (whole ∙ is) p.invariant.paid;
      rest = rest_next p.place olds p.tests e within within_too p.invariant.rest new;
    }
