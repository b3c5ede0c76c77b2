use Rattle.std.proofs.Common.{[], map, take}
use Rattle.ra_condition.specs.Contents.{group_contents}
use Rattle.ra_group.specs.declared.form.Form.TheVariants.{InTrigger}
use Rattle.ra_schedule.specs.Given.{AreGiven, given_by}
use Rattle.ra_schedule.proofs.reads.trigger_gives.Given as goal

-- no alt group so far gives a left value
abbrev pub invariant-loop-alt : goal.invariant-loop-alt
invariant-loop-alt l = AreGiven [] (given_by InTrigger (map group_contents (take l.alt-index l.text.alts.items)))
