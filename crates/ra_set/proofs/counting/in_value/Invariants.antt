use Rattle.std.proofs.Common.{◌≡◌, take}
use Rattle.std.specs.List.{sum_by}
use Rattle.ra_condition.specs.Contents.{part_contents}
use Rattle.ra_set.specs.Limits.{part_conditions}
use Rattle.ra_set.proofs.counting.in_value.Given as goal

abbrev pub invariant-loop-part : goal.invariant-loop-part
invariant-loop-part l = l.count ≡ sum_by (λ part. part_conditions (part_contents part)) (take l.part-index l.part-items)
