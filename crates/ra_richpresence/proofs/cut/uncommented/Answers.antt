use Rattle.std.proofs.Common.{sym}
use Rattle.ra_richpresence.proofs.Splits.{cut-turn}
use Rattle.ra_richpresence.proofs.cut.uncommented.Goals as goal

pub loop-rest-preserved : goal.loop-rest-preserved
loop-rest-preserved c = cut-turn c.args.line.now c.loop-rest.rest.now c.in-len1-up.len_at_least
    (sym c.if-begins_comment.ensures) c.loop-rest.invariant
