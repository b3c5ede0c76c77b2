use Rattle.std.proofs.Common.{◌≡◌, ◌<◌, ◌≤◌, ℕ, length}
use Rattle.ra_links.specs.FlatRows.{entry_at}
use Rattle.ra_links.specs.LateRows.{moved_by}
use Rattle.ra_links.proofs.late_rows.move_by.Given as goal

-- the first so many entries are moved, and the others stay
abbrev pub invariant-loop-place : goal.invariant-loop-place
invariant-loop-place l = record {
  long : length l.entries ≡ length l.fn.entries;
  moved : (k : ℕ) → k < l.place → entry_at l.entries k ≡ moved_by l.count (entry_at l.fn.entries k);
  others : (k : ℕ) → l.place ≤ k → entry_at l.entries k ≡ entry_at l.fn.entries k;
}
