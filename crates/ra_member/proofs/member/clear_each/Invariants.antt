use Rattle.std.proofs.Common.{◌≡◌, map, take, drop}
use Rattle.ra_trigger.specs.Steps.{cleared}
use Rattle.ra_member.specs.declared.trigger_run.TriggerRun.{TriggerRun}
use Rattle.ra_member.specs.MemberRuns.{StayTests}
use Rattle.ra_member.proofs.member.clear_each.Given as goal

abbrev pub invariant-loop-place : goal.invariant-loop-place
invariant-loop-place l = record {
  stay : StayTests l.fn.tests l.tests;
  kept : map (λ (t : TriggerRun). t.trigger.hits) (take l.place l.tests)
      ≡ map (λ (t : TriggerRun). cleared t.trigger.hits) (take l.place l.fn.tests);
  rest : drop l.place l.tests ≡ drop l.place l.fn.tests;
}
