use Rattle.std.proofs.Common.{◌≡◌, ℕ, ◌<◌, ◌≤◌, cond, false, get_or, slice_index, slice_index_or}
use Rattle.ra_schedule.specs.Groups.{plus}
use Rattle.ra_schedule.proofs.counts.pay.Given as goal

-- the hits so far are paid, and the others stay
abbrev pub invariant-loop-place : goal.invariant-loop-place
invariant-loop-place l = record {
  paid : (k : ℕ) → k < l.place → get_or l.hits k 0
      ≡ cond (slice_index_or l.counted k false) (plus l.frames (slice_index l.initial.hits k))
      (slice_index l.initial.hits k);
  others : (k : ℕ) → l.place ≤ k → get_or l.hits k 0 ≡ slice_index l.initial.hits k;
}
