use Rattle.std.proofs.Common.{◌<◌, ◌≤◌, ℕ}
use Rattle.ra_links.specs.FlatRows.{entry_at}
use Rattle.ra_links.proofs.late_rows.first_row.Given as goal

abbrev pub invariant-loop-entry : goal.invariant-loop-entry
invariant-loop-entry l = record {
  most : l.first ≤ l.rows;
  first : (k : ℕ) → k < l.entry-index → l.first ≤ (entry_at l.entries k).row;
}
