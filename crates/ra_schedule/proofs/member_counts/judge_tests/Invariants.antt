use Rattle.std.proofs.Common.{◌≡◌, ℕ, ◌<◌, [], true, drop, map, slice_index_or, take, Vec, Global}
use Rattle.ra_member.specs.declared.trigger_run.TriggerRun.{TriggerRun}
use Rattle.ra_schedule.specs.Counted.{all_keep_by, counted_rows}
use Rattle.ra_schedule.specs.Counts.{bit_rows, free_rows}
use Rattle.ra_schedule.proofs.member_counts.judge_tests.Given as goal

-- the rows so far are judged, and the others stay
abbrev pub invariant-loop-place : goal.invariant-loop-place
invariant-loop-place l = record {
  free : free_rows l.counts ≡ free_rows l.fn.counts;
  bits : bit_rows (take l.place l.counts)
      ≡ counted_rows (map (λ (row : Vec ℕ Global). row.items) (take l.place l.rows))
      (map (λ (test : TriggerRun). test.trigger.hits) (take l.place l.tests));
  keep : l.keeps ≡ true → (k : ℕ) → k < l.place
      → all_keep_by (slice_index_or (free_rows l.fn.counts) k [])
      (slice_index_or (map (λ (row : Vec ℕ Global). row.items) l.rows) k [])
      (slice_index_or (map (λ (test : TriggerRun). test.trigger.hits) l.tests) k []) ≡ true;
  rest : drop l.place l.counts ≡ drop l.place l.fn.counts;
}
