use Rattle.std.proofs.Common.{◌≡◌, length, map, take, sum_by}
use Rattle.ra_condition.specs.Contents.{group_contents}
use Rattle.ra_display.proofs.counted.are_bare.Given as goal

abbrev pub invariant-loop-group : goal.invariant-loop-group
invariant-loop-group l = sum_by length (map group_contents (take l.group-index l.groups)) ≡ 0
