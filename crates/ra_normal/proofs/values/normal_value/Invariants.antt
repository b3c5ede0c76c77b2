use Rattle.std.proofs.Common.{◌≡◌, map, take}
use Rattle.ra_condition.specs.Contents.{part_contents}
use Rattle.ra_normal.specs.Contents.{normal_part}
use Rattle.ra_normal.proofs.values.normal_value.Given as goal

-- the normal parts of the parts so far
abbrev pub invariant-loop-part : goal.invariant-loop-part
invariant-loop-part l = map part_contents l.parts.items
    ≡ map normal_part (map part_contents (take l.part-index l.value.parts.items))
