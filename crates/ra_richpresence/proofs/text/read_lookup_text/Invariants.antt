use Rattle.std.proofs.Common.{length}
use Rattle.ra_richpresence.specs.Reading.{character_at, lookup_text_of}
use Rattle.ra_richpresence.proofs.Turns.{AllSoFar}
use Rattle.ra_richpresence.proofs.text.read_lookup_text.Given as goal

abbrev pub invariant-loop-text : goal.invariant-loop-text
invariant-loop-text l = AllSoFar character_at l.text.items l.cursor.rest.now (lookup_text_of l.fn.cursor.rest.now)

abbrev pub decreases-loop-text : goal.decreases-loop-text
decreases-loop-text l = length l.cursor.rest.now
