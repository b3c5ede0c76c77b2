use Rattle.std.proofs.Common.{length}
use Rattle.ra_richpresence.proofs.spans.+spans_of_ranges.Given as goal

abbrev pub decreases-spans_of_ranges : goal.decreases-spans_of_ranges
decreases-spans_of_ranges l = length l.ranges.now
