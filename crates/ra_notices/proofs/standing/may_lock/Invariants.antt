use Rattle.std.proofs.Common.{◌≡◌, map}
use Rattle.std.specs.List.{range_with_len}
use Rattle.ra_notices.specs.Notices.{has_before}
use Rattle.ra_notices.specs.Noticing.{may_lock}
use Rattle.ra_notices.proofs.standing.may_lock.Given as goal

-- the conditions so far, and what the next one has before it
abbrev pub invariant-loop-condition : goal.invariant-loop-condition
invariant-loop-condition l = (l.may.items ≡ map (may_lock l.conditions)
    (range_with_len 0 l.condition-index)) × (l.before ≡ has_before l.conditions l.condition-index)
