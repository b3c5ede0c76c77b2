use Rattle.std.proofs.Common.{◌≡◌, take}
use Rattle.std.specs.List.{sum_by}
use Rattle.ra_richpresence.specs.Contents.{line_contents}
use Rattle.ra_set.specs.Limits.{line_conditions}
use Rattle.ra_set.proofs.counting.in_lines.Given as goal

abbrev pub invariant-loop-line : goal.invariant-loop-line
invariant-loop-line l = l.count ≡ sum_by (λ line. line_conditions (line_contents line)) (take l.line-index l.lines)
