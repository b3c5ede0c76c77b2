use Rattle.std.proofs.Common.{◌≡◌, ℕ, ◌≤◌, length, map, take, Vec, Global}
use Rattle.ra_member.specs.declared.trigger_run.TriggerRun.{TriggerRun}
use Rattle.ra_schedule.specs.Owing.{AreTestsSmall}
use Rattle.ra_schedule.proofs.room.note_tests.Given as goal

abbrev pub invariant-loop-place : goal.invariant-loop-place
invariant-loop-place l = record {
  noted : map (λ (row : Vec ℕ Global). row.items) (take l.place l.rows)
      ≡ map (λ (test : TriggerRun). test.trigger.hits) (take l.place l.tests);
  small : AreTestsSmall (map (λ (test : TriggerRun). test.trigger.hits) (take l.place l.tests));
  many : length l.tests ≤ length l.rows;
}
