use Rattle.std.proofs.Common.{length}
use Rattle.ra_richpresence.specs.Reading.{name_byte, name_at}
use Rattle.ra_richpresence.proofs.Turns.{RunSoFar}
use Rattle.ra_richpresence.proofs.names.take_name.Given as goal

abbrev pub invariant-loop-cursor : goal.invariant-loop-cursor
invariant-loop-cursor l = RunSoFar name_byte l.name.items l.cursor.rest.now (name_at l.fn.cursor.rest.now)

abbrev pub decreases-loop-cursor : goal.decreases-loop-cursor
decreases-loop-cursor l = length l.cursor.rest.now
