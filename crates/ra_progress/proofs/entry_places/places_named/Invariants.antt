use Rattle.std.proofs.Common.{◌≡◌, ℕ, ◌<◌, None, length, slice_index_or}
use Rattle.ra_progress.specs.Contents.{shape_contents, own_entries, own_at}
use Rattle.ra_progress.specs.Layout.{entries_from, entries_in}
use Rattle.ra_progress.specs.Saying.{last_block}
use Rattle.ra_progress.proofs.Walks.{IsWalk}
use Rattle.ra_progress.proofs.entry_places.places_named.Given as goal

-- where each own entry ends up by the entries that are left
abbrev pub invariant-loop-left : goal.invariant-loop-left
invariant-loop-left l = record {
  walk : IsWalk l.bytes l.left l.at;
  many : length l.places.items ≡ length (own_entries (shape_contents l.shape));
  rest : (n : ℕ) → n < length (own_entries (shape_contents l.shape))
      → last_block (own_at (own_entries (shape_contents l.shape)) n).name
      (entries_from l.bytes l.left l.at) (slice_index_or l.places.items n None)
      ≡ last_block (own_at (own_entries (shape_contents l.shape)) n).name (entries_in l.bytes) None;
}

abbrev pub decreases-loop-left : goal.decreases-loop-left
decreases-loop-left l = l.left
