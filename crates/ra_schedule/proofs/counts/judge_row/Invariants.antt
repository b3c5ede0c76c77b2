use Rattle.std.proofs.Common.{◌≡◌, ◌==◌, ℕ, ◌<◌, not, false, get_or, length, slice_index, take}
use Rattle.std.specs.List.{list_all, range_with_len}
use Rattle.ra_schedule.proofs.MembersRest.Counted.{keeps_place}
use Rattle.ra_schedule.proofs.counts.judge_row.Given as goal

-- the bits so far say which hits changed, and it is known whether the hits so far stayed, or are free and one more
abbrev pub invariant-loop-place : goal.invariant-loop-place
invariant-loop-place l = record {
  bits : (k : ℕ) → k < l.place → get_or l.counted k false ≡ not (slice_index l.after k == slice_index l.before k);
  so_far : l.keeps ≡ list_all (keeps_place l.free l.before l.after) (take l.place (range_with_len 0 (length l.after)));
}
