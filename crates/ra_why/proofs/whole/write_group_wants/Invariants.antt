use Rattle.std.proofs.Common.{◌≡◌, ◌++◌, false, slice_index_or, string_bytes}
use Rattle.std.specs.List.{flat_map, range_with_len}
use Rattle.ra_why.specs.Text.{want_text}
use Rattle.ra_why.proofs.whole.write_group_wants.Given as goal

-- the places so far are written
abbrev pub invariant-loop-place : goal.invariant-loop-place
invariant-loop-place l =
    string_bytes l.text ≡ string_bytes l.fn.text ++ flat_map
    (λ j. want_text l.number j (slice_index_or l.wants j false)) (range_with_len 0 l.place)
