use Rattle.std.proofs.Common.{◌≡◌, ◌++◌, map, take}
use Rattle.ra_condition.specs.Contents.{group_contents}
use Rattle.ra_group.specs.declared.form.Form.TheVariants.{InTrigger}
use Rattle.ra_schedule.specs.Given.{given_by, given_in}
use Rattle.ra_schedule.proofs.reads.trigger_given.Given as goal

abbrev pub invariant-loop-alt : goal.invariant-loop-alt
invariant-loop-alt l =
    l.given.items ≡ given_in InTrigger (group_contents l.text.core)
    ++ given_by InTrigger (map group_contents (take l.alt-index l.text.alts.items))
