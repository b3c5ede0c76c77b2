use Rattle.std.proofs.Common.{◌+◌, map, drop}
use Rattle.ra_condition.specs.Contents.{group_contents}
use Rattle.ra_notices.proofs.StandingLemmas.{AltsLeft}
use Rattle.ra_notices.proofs.groups.review_alts.Given as goal

-- the alts that are left
abbrev pub invariant-loop-place : goal.invariant-loop-place
invariant-loop-place l = AltsLeft l.core.place (map group_contents l.alts) (map group_contents
    (drop l.place l.alts)) (l.place + 1) l.initial.found.items l.found.items l.resets l.all
