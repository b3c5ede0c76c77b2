use Rattle.std.proofs.Common.{◌≡◌, ◌≤◌, length, take, drop, codes}
use Rattle.ra_set.specs.Runs.{any_but}
use Rattle.ra_set.proofs.RunLemmas.{RunSoFar}
use Rattle.ra_set.proofs.runs.take_name.Given as goal

abbrev pub invariant-bytes : goal.invariant-bytes
invariant-bytes l =
    (l.cursor.rest.now ≡ drop l.length l.text) × (l.length ≤ length l.text)
    × RunSoFar (any_but (codes " \n")) (take l.length l.text) l.cursor.rest.now l.text

abbrev pub decreases-bytes : goal.decreases-bytes
decreases-bytes l = length l.cursor.rest.now
