use Rattle.std.proofs.Common.{◌≡◌, ◌-◌, length, drop}
use Rattle.ra_progress.specs.Contents.{shape_contents, own_entries}
use Rattle.ra_progress.specs.Layout.{entries_from, entries_in}
use Rattle.ra_progress.specs.Reading.{have_sizes}
use Rattle.ra_progress.proofs.Walks.{IsWalk}
use Rattle.ra_progress.proofs.relation.have_sizes.Given as goal

-- what is left to compare
abbrev pub invariant-loop-number : goal.invariant-loop-number
invariant-loop-number l = record {
  walk : IsWalk l.bytes (length (own_entries (shape_contents l.shape)) - l.number) l.at;
  rest : have_sizes (drop l.number (own_entries (shape_contents l.shape)))
      (entries_from l.bytes (length (own_entries (shape_contents l.shape)) - l.number) l.at)
      ≡ have_sizes (own_entries (shape_contents l.shape)) (entries_in l.bytes);
}
