use Rattle.std.proofs.Common.{◌≡◌, length}
use Rattle.ra_condition.specs.Contents.{value_contents, value_hits}
use Rattle.ra_evaluation_tests.proofs.values.frame.first_other.Given as goal

abbrev pub invariant-loop-place : goal.invariant-loop-place
invariant-loop-place l = (length l.value.hits ≡ value_hits (value_contents l.text))
    × (length l.value.numbers ≡ length (value_contents l.text))
