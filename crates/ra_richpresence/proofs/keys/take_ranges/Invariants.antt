use Rattle.std.proofs.Common.{length, codes}
use Rattle.ra_richpresence.specs.Reading.{range_at, ranges_at}
use Rattle.ra_text.specs.Table.{only}
use Rattle.ra_text.proofs.Loops.{JoinedSoFar}
use Rattle.ra_richpresence.proofs.keys.take_ranges.Given as goal

abbrev pub invariant-others : goal.invariant-others
invariant-others l = JoinedSoFar (only (codes ",")) range_at l.ranges.items l.cursor.rest.now
    (ranges_at l.fn.cursor.rest.now)

abbrev pub decreases-others : goal.decreases-others
decreases-others l = length l.cursor.rest.now
