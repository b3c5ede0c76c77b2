use Rattle.std.proofs.Common.{◌≡◌, ◌++◌, map, take}
use Rattle.ra_schedule.specs.Groups.{is_free}
use Rattle.ra_schedule.proofs.counts.put_free.Given as goal

abbrev pub invariant-loop-condition : goal.invariant-loop-condition
invariant-loop-condition l =
    l.free.items ≡ l.initial.free.items ++ map (is_free l.form) (take l.condition-index l.group.conditions.items)
