use Rattle.std.proofs.Common.{length, ◌+◌}
use Rattle.ra_richpresence.proofs.SpanMerges.{Merging}
use Rattle.ra_richpresence.proofs.laid_over.laid_over.Given as goal

abbrev pub invariant-loop-from : goal.invariant-loop-from
invariant-loop-from l = Merging l.fn.over l.fn.under l.spans.items l.first.line l.second.line l.first.left.now
    l.second.left.now l.before

abbrev pub decreases-loop-from : goal.decreases-loop-from
decreases-loop-from l = length l.first.left.now + length l.second.left.now
