use Rattle.std.proofs.Common.{◌≡◌}
use Rattle.std.specs.List.{list_any}
use Rattle.ra_progress.specs.Contents.{shape_contents, own_entries}
use Rattle.ra_progress.specs.Layout.{entries_from, entries_in}
use Rattle.ra_progress.specs.Reading.{has_named}
use Rattle.ra_progress.proofs.Walks.{IsWalk}
use Rattle.ra_progress.proofs.entries.has_own.Given as goal

-- what is left to look at
abbrev pub invariant-loop-left : goal.invariant-loop-left
invariant-loop-left l = record {
  walk : IsWalk l.bytes l.left l.at;
  rest : list_any (λ entry. has_named (own_entries (shape_contents l.shape)) entry.name)
      (entries_from l.bytes l.left l.at) ≡ list_any
      (λ entry. has_named (own_entries (shape_contents l.shape)) entry.name) (entries_in l.bytes);
}

abbrev pub decreases-loop-left : goal.decreases-loop-left
decreases-loop-left l = l.left
