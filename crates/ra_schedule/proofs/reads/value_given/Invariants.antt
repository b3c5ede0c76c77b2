use Rattle.std.proofs.Common.{◌≡◌, map, take}
use Rattle.ra_condition.specs.Contents.{counted_in, part_contents}
use Rattle.ra_group.specs.declared.form.Form.TheVariants.{InValue}
use Rattle.ra_schedule.specs.Given.{given_by}
use Rattle.ra_schedule.proofs.reads.value_given.Given as goal

abbrev pub invariant-loop-part : goal.invariant-loop-part
invariant-loop-part l =
    l.given.items ≡ given_by InValue (map counted_in (map part_contents (take l.part-index l.text.parts.items)))
