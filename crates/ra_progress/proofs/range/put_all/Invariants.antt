use Rattle.std.proofs.Common.{◌≡◌, ◌≤◌, ◌<◌, length, ℕ, slice_index, slice_index_or}
use Rattle.ra_progress.proofs.range.put_all.Given as goal

-- what is put so far, and what is kept
abbrev pub invariant-loop-place : goal.invariant-loop-place
invariant-loop-place g l = record {
  long : length l.values.items ≡ length l.fn.values.items;
  there : (k : ℕ) (d : _) → l.fn.range.0 ≤ k → k < l.place
      → slice_index_or l.values.items (slice_index l.order k) d ≡ l.value;
  kept : (n : ℕ) (d : _) → ((k : ℕ) → l.fn.range.0 ≤ k → k < l.place → slice_index l.order k ≡ n
      → ⊥) → slice_index_or l.values.items n d ≡ slice_index_or l.fn.values.items n d;
}
