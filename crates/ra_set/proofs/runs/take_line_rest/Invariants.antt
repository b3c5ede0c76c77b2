use Rattle.std.proofs.Common.{ℕ, List, length, codes}
use Rattle.ra_set.specs.Runs.{any_but}
use Rattle.ra_set.proofs.RunLemmas.{RunSoFar}
use Rattle.ra_set.proofs.runs.take_line_rest.Given as goal

abbrev pub invariant-bytes : goal.invariant-bytes
invariant-bytes l = (so_far : List ℕ) × RunSoFar (any_but (codes "\n")) so_far l.cursor.rest.now l.fn.cursor.rest.now

abbrev pub decreases-bytes : goal.decreases-bytes
decreases-bytes l = length l.cursor.rest.now
