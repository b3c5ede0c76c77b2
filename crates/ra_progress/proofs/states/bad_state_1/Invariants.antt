use Rattle.std.proofs.Common.{◌≡◌, ◌+◌, drop, length, sum_by}
use Rattle.ra_progress.specs.Contents.{shape_contents, own_entries}
use Rattle.ra_progress.specs.Layout.{own_length, blocks_at_1}
use Rattle.ra_progress.specs.Reading.{bad_states, blocks_from}
use Rattle.ra_progress.proofs.states.bad_state_1.Given as goal

-- what is left to look at, and where it stands
abbrev pub invariant-loop-number : goal.invariant-loop-number
invariant-loop-number l = record {
  place : l.at + sum_by own_length (drop l.number (own_entries (shape_contents l.shape))) + 16 ≡ length l.bytes;
  rest : bad_states l.bytes (blocks_from l.at (drop l.number
      (own_entries (shape_contents l.shape)))) ≡ bad_states l.bytes
      (blocks_from (blocks_at_1 (shape_contents l.shape)) (own_entries (shape_contents l.shape)));
}
