use Rattle.std.proofs.Common.{◌≡◌, length}
use Rattle.ra_set.specs.Reading.{more_digits_at}
use Rattle.ra_set.proofs.exact_id.take_digits_behind.Given as goal

abbrev pub invariant-loop-cursor : goal.invariant-loop-cursor
invariant-loop-cursor l = more_digits_at l.fn.first l.fn.cursor.rest.now ≡ more_digits_at l.number l.cursor.rest.now

abbrev pub decreases-loop-cursor : goal.decreases-loop-cursor
decreases-loop-cursor l = length l.cursor.rest.now
