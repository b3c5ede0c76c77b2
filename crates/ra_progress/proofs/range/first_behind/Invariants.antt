use Rattle.std.proofs.Common.{◌-◌, ◌≡◌, ◌++◌, ◌≤◌, ◌<◌, length, option_to_list, ℕ, true, false, slice_index}
use Rattle.std.specs.Ordering.{is_lt, nat_cmp}
use Rattle.std.specs.Cmp.Lexicographic.{slice_cmp}
use Rattle.ra_progress.specs.Names.{named_by}
use Rattle.ra_progress.proofs.range.first_behind.Given as goal

abbrev pub invariant-loop-low : goal.invariant-loop-low
invariant-loop-low l = record {
  within : l.low ≤ l.high;
  most : l.high ≤ length l.order;
  below : (k : ℕ) → k < l.low → is_lt (slice_cmp nat_cmp l.name
      (named_by (l.names ++ option_to_list l.last) (slice_index l.order k))) ≡ false;
  above : (k : ℕ) → l.high ≤ k → k < length l.order → is_lt (slice_cmp nat_cmp l.name
      (named_by (l.names ++ option_to_list l.last) (slice_index l.order k))) ≡ true;
}

abbrev pub decreases-loop-low : goal.decreases-loop-low
decreases-loop-low l = l.high - l.low
