use Rattle.ra_notices.proofs.PassLemmas.{HasPassed}
use Rattle.ra_notices.proofs.groups.pass_conditions.Given as goal

-- the pass has gone as far as the place
abbrev pub invariant-loop-place : goal.invariant-loop-place
invariant-loop-place l = HasPassed l.spot l.conditions l.initial.found.items l.found.items l.place l.standing
