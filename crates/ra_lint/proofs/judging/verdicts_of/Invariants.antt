use Rattle.std.proofs.Common.{◌≡◌, map}
use Rattle.std.specs.List.{range_with_len}
use Rattle.ra_lint.specs.Judging.{verdict_by_node}
use Rattle.ra_lint.proofs.judging.verdicts_of.Given as goal

-- the verdicts on the conditions so far
abbrev pub invariant-loop-place : goal.invariant-loop-place
invariant-loop-place l = l.verdicts.items ≡ map (verdict_by_node l.conditions l.ranges l.lefts l.rights)
    (range_with_len 0 l.place)
