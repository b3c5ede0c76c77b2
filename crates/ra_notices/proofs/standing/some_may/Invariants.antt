use Rattle.std.proofs.Common.{◌≡◌}
use Rattle.std.specs.List.{list_any, range_with_len}
use Rattle.ra_notices.specs.Notices.{has_before}
use Rattle.ra_notices.specs.Noticing.{may_lock}
use Rattle.ra_notices.proofs.standing.some_may.Given as goal

-- whether some condition so far may lock, and what the next one has before it
abbrev pub invariant-loop-condition : goal.invariant-loop-condition
invariant-loop-condition l =
    (l.some ≡ list_any (may_lock l.conditions) (range_with_len 0 l.condition-index))
    × (l.before ≡ has_before l.conditions l.condition-index)
