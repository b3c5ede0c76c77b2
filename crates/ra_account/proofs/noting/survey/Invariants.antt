use Rattle.std.proofs.Common.{◌≡◌, ℕ, ◌<◌, ◌&&◌, false}
use Rattle.std.specs.Prelude.{slice_index, slice_index_or}
use Rattle.std.specs.List.{list_any, range_with_len}
use Rattle.ra_condition.specs.Contents.{flag_at}
use Rattle.ra_condition.specs.Flags.{is_pause, is_reset}
use Rattle.ra_group.specs.Equations.{settled_at}
use Rattle.ra_account.specs.Facts.{pointer_by}
use Rattle.ra_account.specs.Groups.{no_sight, row_frame, row_in}
use Rattle.ra_account.proofs.noting.survey.Given as goal

-- what the conditions so far show
abbrev pub invariant-loop-place : goal.invariant-loop-place
invariant-loop-place l = record {
  pauses : l.paused ≡ list_any (λ j. is_pause (flag_at l.conditions j)
      && (settled_at (row_frame l.conditions (row_in l.row)) j).valid) (range_with_len 0 l.place);
  resets_too : l.resets ≡ list_any (λ j. is_reset (flag_at l.conditions j)
      && (settled_at (row_frame l.conditions (row_in l.row)) j).valid) (range_with_len 0 l.place);
  moved_too : l.moved ≡ false → (j : ℕ) → j < l.place
      → pointer_by (flag_at l.conditions j) (slice_index_or l.seen j no_sight).left
      ≡ pointer_by (flag_at l.conditions j) (slice_index (row_in l.row).lefts j);
}
