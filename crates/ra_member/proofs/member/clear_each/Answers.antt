use Rattle.std.proofs.Common.{◌≡◌, ◌<◌, length, get_or, refl, ap, arith}
use Rattle.ra_trigger.specs.Steps.{TriggerKept, cleared}
use Rattle.ra_member.specs.declared.trigger_run.TriggerRun.{TriggerRun}
use Rattle.ra_member.specs.Runs.{IsTriggerRun}
use Rattle.ra_member.proofs.PutBackLemmas.{mapped_next, rest_next}
use Rattle.ra_member.proofs.PutBackRuns.{test_cleared}
use Rattle.ra_member.proofs.SideBySide.{beside_set}
use Rattle.ra_member.proofs.member.clear_each.Goals as goal

pub loop-place-preserved : goal.loop-place-preserved
loop-place-preserved c =
    let p = c.loop-place in
    let olds = c.args.tests.now in
    let d = c.index-tests-place.result in
    let old : TriggerRun = get_or p.tests p.place d in
    let new : TriggerRun = record old { trigger = c.clear.new.self } in
    let is : new.trigger.hits ≡ cleared old.trigger.hits = ap (λ (k : TriggerKept). k.hits) c.clear.ensures in
    let within : p.place < length olds = omega arith in
    let within_too : p.place < length p.tests = omega arith in
    record {
      stay = λ nodes tests are. beside_set (IsTriggerRun nodes) tests p.tests p.place d new
          within_too (test_cleared old new refl is nodes) (p.invariant.stay nodes tests are);
      kept = mapped_next p.place olds p.tests d within within_too p.invariant.rest (λ
          (t : TriggerRun). t.trigger.hits)
          (λ (t : TriggerRun). cleared t.trigger.hits) new is p.invariant.kept;
      rest = rest_next p.place olds p.tests d within within_too p.invariant.rest new;
    }
