use Rattle.std.proofs.Common.{◌<◌, length, arith}
use Rattle.ra_member.specs.declared.trigger_run.TriggerRun.{TriggerRun}
use Rattle.ra_member.specs.Runs.{IsTriggerRun}
use Rattle.ra_member.proofs.PutBackLemmas.{within_bytes, row_next, rest_next}
use Rattle.ra_member.proofs.PutBackRuns.{test_stays}
use Rattle.ra_member.proofs.SideBySide.{beside_set}
use Rattle.ra_member.proofs.put_back.put_back_tests.Goals as goal

pub put_back_test-at-requires : goal.put_back_test-at-requires
put_back_test-at-requires c =
    let p = c.loop-place in
    let within : p.place < length c.args.tests.now = omega arith in
    let within_too : p.place < length p.tests = omega arith in
    within_bytes p.place c.args.tests.now p.tests c.index-tests-place.result within within_too
    p.invariant.rest (λ (t : TriggerRun). t.trigger.hits) c.args.bytes.now c.args.from p.at
    p.invariant.back (length c.args.bytes.now) c.requires

pub loop-place-preserved : goal.loop-place-preserved
loop-place-preserved c =
    let p = c.loop-place in
    let bytes = c.args.bytes.now in
    let olds = c.args.tests.now in
    let d = c.index-tests-place.result in
    let new = c.put_back_test-at.new.run in
    let e = c.put_back_test-at.ensures in
    let within : p.place < length olds = omega arith in
    let within_too : p.place < length p.tests = omega arith in
    record {
      stay = λ nodes tests are. beside_set (IsTriggerRun nodes) tests p.tests p.place d new
          within_too (test_stays bytes p.at _ new e.test nodes) (p.invariant.stay nodes tests are);
      back = row_next p.place olds p.tests d within within_too p.invariant.rest
          (λ (t : TriggerRun). t.trigger.hits) bytes c.args.from p.at p.invariant.back new
          c.put_back_test-at.result e.test.hits e.place;
      rest = rest_next p.place olds p.tests d within within_too p.invariant.rest new;
    }
