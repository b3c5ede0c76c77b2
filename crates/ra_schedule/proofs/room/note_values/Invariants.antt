use Rattle.std.proofs.Common.{◌≡◌, ◌≤◌, length, map, take}
use Rattle.ra_member.specs.declared.value_run.ValueRun.{ValueRun}
use Rattle.ra_schedule.specs.Counts.{value_held}
use Rattle.ra_schedule.specs.Owing.{AreValuesSmall}
use Rattle.ra_schedule.proofs.room.note_values.Given as goal

abbrev pub invariant-loop-place : goal.invariant-loop-place
invariant-loop-place l = record {
  noted : map value_held (take l.place l.rows) ≡ map (λ (value : ValueRun). value.value) (take l.place l.values);
  small : AreValuesSmall (map (λ (value : ValueRun). value.value) (take l.place l.values));
  many : length l.values ≤ length l.rows;
}
