use Rattle.std.proofs.Common.{◌≡◌, ◌+◌, length, map, drop, sum_by}
use Rattle.ra_condition.specs.Contents.{group_contents}
use Rattle.ra_account.proofs.trigger_account.count_of.Given as goal

-- the conditions so far, and those of the alts that are left, are all
abbrev pub invariant-loop-alt : goal.invariant-loop-alt
invariant-loop-alt l =
    l.count + sum_by length (map group_contents (drop l.alt-index l.text.alts.items))
    ≡ length (group_contents l.text.core) + sum_by length (map group_contents l.text.alts.items)
