use Rattle.std.proofs.Common.{length}
use Rattle.ra_richpresence.specs.Following.{bytes_of}
use Rattle.ra_richpresence.specs.Reading.{entries_at}
use Rattle.ra_richpresence.proofs.Turns.{EntriesSoFar}
use Rattle.ra_richpresence.proofs.section.take_lookup.Given as goal

abbrev pub invariant-loop-lines : goal.invariant-loop-lines
invariant-loop-lines l = EntriesSoFar l.fn.most l.fn.name.items l.found (bytes_of l.lines.rest.now)
    (entries_at (bytes_of l.fn.lines.rest.now))

abbrev pub decreases-loop-lines : goal.decreases-loop-lines
decreases-loop-lines l = length l.lines.rest.now
