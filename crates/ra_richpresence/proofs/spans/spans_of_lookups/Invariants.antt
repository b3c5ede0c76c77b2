use Rattle.std.proofs.Common.{take}
use Rattle.ra_richpresence.specs.Spans.{AreLaidOut}
use Rattle.ra_richpresence.proofs.spans.spans_of_lookups.Given as goal

abbrev pub invariant-loop-lookup : goal.invariant-loop-lookup
invariant-loop-lookup l = AreLaidOut (take l.lookup-index l.lookups) l.spans.items
