use Rattle.std.proofs.Common.{◌≡◌, map, take, drop}
use Rattle.ra_member.specs.declared.trigger_run.TriggerRun.{TriggerRun}
use Rattle.ra_member.specs.MemberRuns.{StayTests}
use Rattle.ra_schedule.specs.Counted.{CountsSeen, owed_rows_by}
use Rattle.ra_schedule.proofs.member_counts.pay_tests.Given as goal

abbrev pub invariant-loop-place : goal.invariant-loop-place
invariant-loop-place l = record {
  stay : StayTests l.fn.tests l.tests;
  paid : map (λ (test : TriggerRun). test.trigger.hits) (take l.place l.tests)
      ≡ owed_rows_by l.frames (map (λ (row : CountsSeen). row.counted) (take l.place l.rows))
      (map (λ (test : TriggerRun). test.trigger.hits) (take l.place l.fn.tests));
  rest : drop l.place l.tests ≡ drop l.place l.fn.tests;
}
