use Rattle.std.proofs.Common.{◌≡◌, drop}
use Rattle.ra_member.specs.declared.trigger_run.TriggerRun.{TriggerRun}
use Rattle.ra_member.specs.MemberRuns.{StayTests}
use Rattle.ra_member.proofs.PutBackLemmas.{IsRowBack}
use Rattle.ra_member.proofs.put_back.put_back_tests.Given as goal

abbrev pub invariant-loop-place : goal.invariant-loop-place
invariant-loop-place l = record {
  stay : StayTests l.fn.tests l.tests;
  back : IsRowBack (λ (t : TriggerRun). t.trigger.hits) l.bytes l.from l.at l.place l.fn.tests l.tests;
  rest : drop l.place l.tests ≡ drop l.place l.fn.tests;
}
