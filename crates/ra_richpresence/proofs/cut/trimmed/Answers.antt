use Rattle.std.proofs.Common.{sym}
use Rattle.ra_richpresence.proofs.Splits.{trimmed-more, trimmed-ends}
use Rattle.ra_richpresence.proofs.cut.trimmed.Goals as goal

pub loop-rest-preserved : goal.loop-rest-preserved
loop-rest-preserved c = trimmed-more c.args.line.now c.loop-rest.rest.now c.in-len1-up.len_at_least
    (sym c.if-not-is_blank.ensures) c.loop-rest.invariant

pub returns-then-not-is_blank : goal.returns-then-not-is_blank
returns-then-not-is_blank c = trimmed-ends c.args.line.now c.loop-rest.rest.now
    c.in-len1-up.len_at_least (sym c.if-not-is_blank.ensures) c.loop-rest.invariant
