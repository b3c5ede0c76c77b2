use Rattle.ra_set.proofs.CutLemmas.{return-last, other-last}
use Rattle.ra_set.proofs.names.without_return.Goals as goal

pub returns-then-last-eq13 : goal.returns-then-last-eq13
returns-then-last-eq13 c = return-last c.args.line.now c.in-len1-up.len_at_least c.if-last-eq13.true

pub returns-else-last-eq13 : goal.returns-else-last-eq13
returns-else-last-eq13 c = other-last c.args.line.now c.in-len1-up.len_at_least c.if-last-eq13.false
