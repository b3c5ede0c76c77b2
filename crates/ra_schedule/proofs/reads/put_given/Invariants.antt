use Rattle.std.proofs.Common.{◌≡◌, ◌++◌, take}
use Rattle.ra_schedule.specs.Given.{given_in}
use Rattle.ra_schedule.proofs.reads.put_given.Given as goal

abbrev pub invariant-loop-condition : goal.invariant-loop-condition
invariant-loop-condition l =
    l.given.items ≡ l.initial.given.items ++ given_in l.form (take l.condition-index l.group.conditions.items)
