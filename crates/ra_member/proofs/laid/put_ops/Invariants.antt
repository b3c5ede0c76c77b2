use Rattle.std.proofs.Common.{◌≡◌, ◌++◌, take}
use Rattle.ra_member.specs.Readings.{ops_in}
use Rattle.ra_member.proofs.laid.put_ops.Given as goal

abbrev pub invariant-loop-condition : goal.invariant-loop-condition
invariant-loop-condition l =
    l.ops.items ≡ l.initial.ops.items ++ ops_in (take l.condition-index l.group.conditions.items)
