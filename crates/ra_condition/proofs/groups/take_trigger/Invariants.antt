use Rattle.std.proofs.Common.{length, codes, ◌∷◌, map}
use Rattle.ra_condition.specs.Contents.{group_contents}
use Rattle.ra_condition.specs.Reading.{group_at, groups_at}
use Rattle.ra_text.specs.Table.{only_letters}
use Rattle.ra_text.proofs.Loops.{JoinedSoFar}
use Rattle.ra_condition.proofs.groups.take_trigger.Given as goal

abbrev pub invariant-alts : goal.invariant-alts
invariant-alts l = JoinedSoFar (only_letters (codes "S")) group_at (group_contents l.core
    ∷ map group_contents l.alts.items) l.cursor.rest.now (groups_at l.fn.cursor.rest.now)

abbrev pub decreases-alts : goal.decreases-alts
decreases-alts l = length l.cursor.rest.now
