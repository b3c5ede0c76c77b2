use Rattle.std.proofs.Common.{◌≡◌, ◌+◌, ◌-◌, ◌==◌, not, None, map, take, drop, find}
use Rattle.ra_progress.specs.Contents.{shape_contents, own_entries, own_at}
use Rattle.ra_text.specs.Words.{word_at}
use Rattle.ra_progress.specs.Layout.{own_length, entry_at}
use Rattle.ra_progress.specs.Reading.{bad_states, blocks_of_entry}
use Rattle.ra_progress.proofs.OwnOrder.{read_as}
use Rattle.ra_progress.proofs.states.bad_state_of_entry.Given as goal

-- what is left to look at, all of it as long as the entry
abbrev pub invariant-loop-place : goal.invariant-loop-place
invariant-loop-place l = record {
  sized : find (λ own. not (own_length own == word_at l.bytes (l.at + 16)))
      (map (own_at (own_entries (shape_contents l.shape)))
      (take (l.to - l.place) (drop l.place l.shape.entry_order.items))) ≡ None;
  rest : bad_states l.bytes (map (read_as (l.at + 20)) (map (own_at (own_entries (shape_contents
      l.shape))) (take (l.to - l.place) (drop l.place l.shape.entry_order.items)))) ≡ bad_states
      l.bytes (blocks_of_entry (own_entries (shape_contents l.shape)) (entry_at l.bytes l.at));
}
