use Rattle.std.proofs.Common.{◌≡◌, ◌<◌, ℕ, length, get_or}
use Rattle.ra_progress.proofs.range.fill_all.Given as goal

-- the values so far are filled
abbrev pub invariant-loop-place : goal.invariant-loop-place
invariant-loop-place g l = record {
  long : length l.values.items ≡ length l.fn.values.items;
  each : (k : ℕ) → k < l.place → get_or l.values.items k l.value ≡ l.value;
}
