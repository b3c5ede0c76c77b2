use Rattle.std.proofs.Common.{◌≡◌, ℕ, ◌<◌, [], true, drop, map, slice_index_or, take}
use Rattle.ra_member.specs.declared.value_run.ValueRun.{ValueRun}
use Rattle.ra_schedule.specs.declared.room.ValueRoom.{ValueRoom}
use Rattle.ra_schedule.specs.Counted.{all_keep_by, counted_rows}
use Rattle.ra_schedule.specs.Counts.{bit_rows, free_rows}
use Rattle.ra_schedule.proofs.member_counts.judge_values.Given as goal

-- the rows so far are judged, and the others stay
abbrev pub invariant-loop-place : goal.invariant-loop-place
invariant-loop-place l = record {
  free : free_rows l.counts ≡ free_rows l.fn.counts;
  bits : bit_rows (take l.place l.counts)
      ≡ counted_rows (map (λ (row : ValueRoom). row.hits.items) (take l.place l.rows))
      (map (λ (value : ValueRun). value.value.hits) (take l.place l.values));
  keep : l.keeps ≡ true → (k : ℕ) → k < l.place
      → all_keep_by (slice_index_or (free_rows l.fn.counts) k [])
      (slice_index_or (map (λ (row : ValueRoom). row.hits.items) l.rows) k [])
      (slice_index_or (map (λ (value : ValueRun). value.value.hits) l.values) k []) ≡ true;
  numbers : l.keeps ≡ true → map (λ (row : ValueRoom). row.numbers.items) (take l.place l.rows)
      ≡ map (λ (value : ValueRun). value.value.numbers) (take l.place l.values);
  rest : drop l.place l.counts ≡ drop l.place l.fn.counts;
}
