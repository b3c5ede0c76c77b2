use Rattle.std.proofs.Common.{◌≡◌, length}
use Rattle.ra_condition.specs.Contents.{trigger_contents, trigger_hits}
use Rattle.ra_evaluation_tests.proofs.triggers.told.first_other.Given as goal

abbrev pub invariant-loop-place : goal.invariant-loop-place
invariant-loop-place l = length l.trigger.hits ≡ trigger_hits (trigger_contents l.text)
