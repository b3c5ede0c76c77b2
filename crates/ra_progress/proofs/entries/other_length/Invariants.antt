use Rattle.std.proofs.Common.{◌≡◌, ◌-◌, ◌==◌, not, map, take, drop, find}
use Rattle.ra_progress.specs.Contents.{shape_contents, own_entries, own_at}
use Rattle.ra_progress.specs.Layout.{own_length}
use Rattle.ra_progress.proofs.entries.other_length.Given as goal

-- what is left to look at
abbrev pub invariant-loop-place : goal.invariant-loop-place
invariant-loop-place l =
    find (λ own. not (own_length own == l.size)) (map (own_at (own_entries (shape_contents
    l.shape))) (take (l.to - l.place) (drop l.place l.shape.entry_order.items))) ≡ find
    (λ own. not (own_length own == l.size)) (map (own_at (own_entries (shape_contents l.shape)))
    (take (l.to - l.from) (drop l.from l.shape.entry_order.items)))
