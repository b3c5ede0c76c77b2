use Rattle.std.proofs.Common.{sym}
use Rattle.ra_richpresence.proofs.SpanMerges.{merging-start, merging-next}
use Rattle.ra_richpresence.proofs.laid_over.laid_over.Goals as goal

pub loop-from-init : goal.loop-from-init
loop-from-init c = merging-start c.args.over.now c.args.under.now c.in_ok-spans.spans.items c.requires.over
    c.requires.under c.in_ok-spans.ensures.items

pub loop-from-preserved : goal.loop-from-preserved
loop-from-preserved c =
    rw (c.pass.ensures.line, c.pass-in-Some.ensures.line, c.pass.ensures.left, c.pass-in-Some.ensures.left)
    (merging-next c.args.over.now c.args.under.now c.loop-from.spans.items c.put_span.new.spans.items
    c.loop-from.first.line c.loop-from.second.line c.loop-from.first.left.now c.loop-from.second.left.now
    c.loop-from.before (record { from = c.in-Some.from; line = c.or-line.result }) c.loop-from.invariant
    (sym c.in-Some.ensures) (rw (c.pass.ensures.line, c.pass-in-Some.ensures.line) at c.or-line.ensures)
    c.in_ok-put_span.ensures)
