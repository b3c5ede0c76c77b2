use Rattle.std.proofs.Common.{length}
use Rattle.ra_set.proofs.LinesLemmas.{LinesSoFar}
use Rattle.ra_set.proofs.lines.take_lines.Given as goal

abbrev pub invariant-lines : goal.invariant-lines
invariant-lines l = LinesSoFar l.kept l.cursor.rest.now l.fn.cursor.rest.now

abbrev pub decreases-lines : goal.decreases-lines
decreases-lines l = length l.cursor.rest.now
