use Rattle.std.proofs.Common.{◌≡◌, ◌+◌, length, map, take, sum_by}
use Rattle.ra_condition.specs.Contents.{group_contents}
use Rattle.ra_trigger.proofs.trigger.Trigger.new.Given as goal

-- the conditions of the core and of the alts so far
abbrev pub invariant-loop-alt : goal.invariant-loop-alt
invariant-loop-alt l = l.count ≡ length (group_contents l.text.core)
    + sum_by length (map group_contents (take l.alt-index l.text.alts.items))
