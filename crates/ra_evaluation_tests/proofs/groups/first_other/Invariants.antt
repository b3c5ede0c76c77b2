use Rattle.std.proofs.Common.{◌≡◌, length}
use Rattle.ra_condition.specs.Contents.{group_contents}
use Rattle.ra_evaluation_tests.proofs.groups.first_other.Given as goal

abbrev pub invariant-loop-place : goal.invariant-loop-place
invariant-loop-place l = length l.hits ≡ length (group_contents l.group)
