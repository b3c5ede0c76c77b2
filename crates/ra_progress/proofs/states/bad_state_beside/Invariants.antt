use Rattle.std.proofs.Common.{◌≡◌, ◌-◌, true, drop, length}
use Rattle.ra_progress.specs.Contents.{shape_contents, own_entries}
use Rattle.ra_progress.specs.Layout.{entries_from, entries_in}
use Rattle.ra_progress.specs.Reading.{bad_states, blocks_beside, have_sizes}
use Rattle.ra_progress.proofs.Walks.{IsWalk}
use Rattle.ra_progress.proofs.states.bad_state_beside.Given as goal

-- what is left to look at
abbrev pub invariant-loop-number : goal.invariant-loop-number
invariant-loop-number l = record {
  walk : IsWalk l.bytes (length (own_entries (shape_contents l.shape)) - l.number) l.at;
  sized : have_sizes (drop l.number (own_entries (shape_contents l.shape)))
      (entries_from l.bytes (length (own_entries (shape_contents l.shape)) - l.number) l.at) ≡ true;
  rest : bad_states l.bytes (blocks_beside (drop l.number (own_entries (shape_contents l.shape)))
      (entries_from l.bytes (length (own_entries (shape_contents l.shape)) - l.number) l.at))
      ≡ bad_states l.bytes
      (blocks_beside (own_entries (shape_contents l.shape)) (entries_in l.bytes));
}
