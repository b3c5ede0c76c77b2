use Rattle.std.proofs.Common.{◌≡◌, map, take, drop}
use Rattle.ra_value.specs.Kept.{cleared}
use Rattle.ra_member.specs.declared.value_run.ValueRun.{ValueRun}
use Rattle.ra_member.specs.MemberRuns.{StayValues}
use Rattle.ra_member.proofs.member.reset_each.Given as goal

abbrev pub invariant-loop-place : goal.invariant-loop-place
invariant-loop-place l = record {
  stay : StayValues l.fn.values l.values;
  kept : map (λ (v : ValueRun). v.value) (take l.place l.values)
      ≡ map (λ (v : ValueRun). cleared v.value) (take l.place l.fn.values);
  rest : drop l.place l.values ≡ drop l.place l.fn.values;
}
