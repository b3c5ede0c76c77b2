use Rattle.ra_notices.proofs.KeyLemmas.{HasNoted}
use Rattle.ra_notices.proofs.twice.twice_in.Given as goal

-- the conditions so far are noted
abbrev pub invariant-loop-condition : goal.invariant-loop-condition
invariant-loop-condition l = HasNoted l.conditions l.condition-index l.twice.items l.seen l.chained
