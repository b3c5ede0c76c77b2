use Rattle.std.proofs.Common.{◌≡◌, ◌&&◌, false, map, slice_index_or}
use Rattle.std.specs.List.{range_with_len}
use Rattle.ra_notices.proofs.standing.both.Given as goal

-- both of the places so far
abbrev pub invariant-loop-place : goal.invariant-loop-place
invariant-loop-place l = l.all.items ≡ map (λ j. slice_index_or l.first j false
    && slice_index_or l.second j false) (range_with_len 0 l.place)
