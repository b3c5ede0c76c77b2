use Rattle.std.proofs.Common.{◌≡◌, ◌++◌, map, take}
use Rattle.ra_condition.specs.Contents.{group_contents}
use Rattle.ra_member.specs.Readings.{ops_in, ops_of}
use Rattle.ra_member.proofs.laid.trigger_ops.Given as goal

abbrev pub invariant-loop-alt : goal.invariant-loop-alt
invariant-loop-alt l = l.ops.items ≡ ops_in (group_contents l.text.core)
    ++ ops_of (map group_contents (take l.alt-index l.text.alts.items))
