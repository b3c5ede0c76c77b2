use Rattle.std.proofs.Common.{length, codes, map}
use Rattle.ra_condition.specs.Contents.{part_contents}
use Rattle.ra_condition.specs.ReadingValues.{part_at, value_at}
use Rattle.ra_text.specs.Table.{only}
use Rattle.ra_text.proofs.Loops.{JoinedSoFar}
use Rattle.ra_condition.proofs.values.take_value.Given as goal

abbrev pub invariant-others : goal.invariant-others
invariant-others l = JoinedSoFar (only (codes "$")) part_at
    (map part_contents l.parts.items) l.cursor.rest.now (value_at l.fn.cursor.rest.now)

abbrev pub decreases-others : goal.decreases-others
decreases-others l = length l.cursor.rest.now
