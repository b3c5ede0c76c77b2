use Rattle.std.proofs.Common.{◌≡◌, take}
use Rattle.std.specs.List.{sum_by}
use Rattle.ra_condition.specs.Contents.{part_contents}
use Rattle.ra_normal.specs.Counting.{legacy_in_part}
use Rattle.ra_normal.proofs.counting.in_value.Given as goal

-- the legacy parts so far
abbrev pub invariant-loop-part : goal.invariant-loop-part
invariant-loop-part l = l.count ≡ sum_by (λ part. legacy_in_part (part_contents part)) (take l.part-index l.part-items)
