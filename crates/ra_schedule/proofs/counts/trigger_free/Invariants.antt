use Rattle.std.proofs.Common.{◌≡◌, ◌++◌, map, take}
use Rattle.ra_condition.specs.Contents.{group_contents}
use Rattle.ra_group.specs.declared.form.Form.TheVariants.{InTrigger}
use Rattle.ra_schedule.specs.Counted.{free_in}
use Rattle.ra_schedule.specs.Groups.{is_free}
use Rattle.ra_schedule.proofs.counts.trigger_free.Given as goal

abbrev pub invariant-loop-alt : goal.invariant-loop-alt
invariant-loop-alt l =
    l.free.items ≡ map (is_free InTrigger) (group_contents l.text.core)
    ++ free_in InTrigger (map group_contents (take l.alt-index l.text.alts.items))
