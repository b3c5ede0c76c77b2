use Rattle.std.proofs.Common.{◌≡◌, None}
use Rattle.ra_progress.specs.Contents.{shape_contents, own_entries}
use Rattle.ra_progress.specs.Layout.{entries_from, entries_in}
use Rattle.ra_progress.specs.Reading.{bad_entries, bad_states, blocks_named}
use Rattle.ra_progress.proofs.Walks.{IsWalk}
use Rattle.ra_progress.proofs.states.bad_state_named.Given as goal

-- what is left to look at
abbrev pub invariant-loop-left : goal.invariant-loop-left
invariant-loop-left l = record {
  walk : IsWalk l.bytes l.left l.at;
  sized : bad_entries (own_entries (shape_contents l.shape)) (entries_from l.bytes l.left l.at) ≡ None;
  rest : bad_states l.bytes (blocks_named (own_entries (shape_contents l.shape))
      (entries_from l.bytes l.left l.at)) ≡ bad_states l.bytes
      (blocks_named (own_entries (shape_contents l.shape)) (entries_in l.bytes));
}

abbrev pub decreases-loop-left : goal.decreases-loop-left
decreases-loop-left l = l.left
