use Rattle.std.proofs.Common.{length, codes}
use Rattle.ra_condition.specs.ReadingValues.{term_at, terms_at}
use Rattle.ra_text.specs.Table.{only}
use Rattle.ra_text.proofs.Loops.{JoinedSoFar}
use Rattle.ra_condition.proofs.values.take_terms.Given as goal

abbrev pub invariant-others : goal.invariant-others
invariant-others l = JoinedSoFar (only (codes "_")) term_at l.terms.items l.cursor.rest.now
    (terms_at l.fn.cursor.rest.now)

abbrev pub decreases-others : goal.decreases-others
decreases-others l = length l.cursor.rest.now
