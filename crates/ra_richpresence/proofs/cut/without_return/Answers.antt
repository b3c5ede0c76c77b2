use Rattle.ra_richpresence.proofs.Splits.{return-front, no_return-front}
use Rattle.ra_richpresence.proofs.cut.without_return.Goals as goal

pub returns-in-len1-up : goal.returns-in-len1-up
returns-in-len1-up c = return-front c.args.line.now c.in-len1-up.len_at_least c.if-last-eq13.true

pub returns-in_default-2 : goal.returns-in_default-2
returns-in_default-2 c = no_return-front c.args.line.now c.in-len1-up.len_at_least c.if-last-eq13.false
