use Rattle.std.proofs.Common.{length}
use Rattle.ra_richpresence.proofs.spans.+spans_of_keys.Given as goal

abbrev pub decreases-spans_of_keys : goal.decreases-spans_of_keys
decreases-spans_of_keys l = length l.keys.now
