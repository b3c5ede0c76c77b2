use Rattle.std.proofs.Common.{length, map}
use Rattle.ra_richpresence.specs.Following.{view_of}
use Rattle.ra_richpresence.proofs.Splits.{LinesSoFar}
use Rattle.ra_richpresence.proofs.cut.cut_lines.Given as goal

abbrev pub invariant-loop-rest : goal.invariant-loop-rest
invariant-loop-rest l = LinesSoFar l.text (map view_of l.lines.items) l.rest

abbrev pub decreases-loop-rest : goal.decreases-loop-rest
decreases-loop-rest l = length l.rest
