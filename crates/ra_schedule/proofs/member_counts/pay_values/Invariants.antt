use Rattle.std.proofs.Common.{◌≡◌, map, take, drop}
use Rattle.ra_member.specs.declared.value_run.ValueRun.{ValueRun}
use Rattle.ra_member.specs.MemberRuns.{StayValues}
use Rattle.ra_schedule.specs.Counted.{CountsSeen, owed_values_by}
use Rattle.ra_schedule.proofs.member_counts.pay_values.Given as goal

abbrev pub invariant-loop-place : goal.invariant-loop-place
invariant-loop-place l = record {
  stay : StayValues l.fn.values l.values;
  paid : map (λ (value : ValueRun). value.value) (take l.place l.values)
      ≡ owed_values_by l.frames (map (λ (row : CountsSeen). row.counted) (take l.place l.rows))
      (map (λ (value : ValueRun). value.value) (take l.place l.fn.values));
  rest : drop l.place l.values ≡ drop l.place l.fn.values;
}
