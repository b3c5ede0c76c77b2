use Rattle.std.proofs.Common.{◌≡◌, map, take}
use Rattle.ra_condition.specs.Contents.{part_contents, counted_in}
use Rattle.ra_member.specs.Readings.{ops_of}
use Rattle.ra_member.proofs.laid.value_ops.Given as goal

abbrev pub invariant-loop-part : goal.invariant-loop-part
invariant-loop-part l = l.ops.items ≡ ops_of (map counted_in (map part_contents (take l.part-index l.text.parts.items)))
