use Rattle.std.proofs.Common.{[], take}
use Rattle.ra_group.specs.declared.form.Form.TheVariants.{InTrigger}
use Rattle.ra_schedule.specs.Given.{AreGiven, given_in}
use Rattle.ra_schedule.proofs.reads.group_gives.Given as goal

-- no condition so far gives its left value
abbrev pub invariant-loop-condition : goal.invariant-loop-condition
invariant-loop-condition l = AreGiven [] (given_in InTrigger (take l.condition-index l.group.conditions.items))
