use Rattle.std.proofs.Common.{◌≡◌, map, take}
use Rattle.ra_condition.specs.Contents.{counted_in, part_contents}
use Rattle.ra_group.specs.declared.form.Form.TheVariants.{InValue}
use Rattle.ra_schedule.specs.Counted.{free_in}
use Rattle.ra_schedule.proofs.counts.value_free.Given as goal

abbrev pub invariant-loop-part : goal.invariant-loop-part
invariant-loop-part l =
    l.free.items ≡ free_in InValue (map counted_in (map part_contents (take l.part-index l.text.parts.items)))
