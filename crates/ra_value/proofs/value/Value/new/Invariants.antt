use Rattle.std.proofs.Common.{◌≡◌, map, take}
use Rattle.ra_condition.specs.Contents.{part_contents, value_hits}
use Rattle.ra_value.proofs.value.Value.new.Given as goal

-- the conditions of the parts so far
abbrev pub invariant-loop-part : goal.invariant-loop-part
invariant-loop-part l = l.count ≡ value_hits (map part_contents (take l.part-index l.text.parts.items))
