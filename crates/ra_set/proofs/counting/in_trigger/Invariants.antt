use Rattle.std.proofs.Common.{◌≡◌, ◌+◌, length, take}
use Rattle.std.specs.List.{sum_by}
use Rattle.ra_condition.specs.Contents.{group_contents}
use Rattle.ra_set.proofs.counting.in_trigger.Given as goal

abbrev pub invariant-loop-alt : goal.invariant-loop-alt
invariant-loop-alt l = l.count ≡ length (group_contents l.trigger.core)
    + sum_by (λ alt. length (group_contents alt)) (take l.alt-index l.alt-items)
