use Rattle.std.proofs.Common.{◌≡◌, ◌+◌, ◌≤◌, ◌^◌, ◌++◌, Some, take, drop, map, sum_by}
use Rattle.ra_progress.specs.Contents.{shape_contents, own_entries}
use Rattle.ra_progress.specs.Layout.{own_length, blocks_at_1}
use Rattle.ra_progress.specs.Reading.{blocks_from}
use Rattle.ra_progress.proofs.entry_places.places_1.Given as goal

-- the places so far, and where the rest stands
abbrev pub invariant-loop-number : goal.invariant-loop-number
invariant-loop-number l = record {
  few : l.at + sum_by own_length (drop l.number (own_entries (shape_contents l.shape))) ≤ 2 ^ 40;
  rest : take l.number l.places ++ map (λ block. Some block.at) (blocks_from l.at (drop l.number
      (own_entries (shape_contents l.shape)))) ≡ map (λ block. Some block.at) (blocks_from
      (blocks_at_1 (shape_contents l.shape)) (own_entries (shape_contents l.shape)));
}
