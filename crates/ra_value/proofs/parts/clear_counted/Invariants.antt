use Rattle.std.proofs.Common.{map}
use Rattle.ra_condition.specs.Contents.{value_contents}
use Rattle.ra_value.specs.Kept.{part_counts}
use Rattle.ra_value.proofs.CountedLemmas.{AreCleared}
use Rattle.ra_value.proofs.parts.clear_counted.Given as goal

-- the numbers of the parts so far are brought to 0 where they come from hits
abbrev pub invariant-loop-place : goal.invariant-loop-place
invariant-loop-place l = AreCleared (map part_counts (value_contents l.text)) l.initial.numbers l.numbers l.place
