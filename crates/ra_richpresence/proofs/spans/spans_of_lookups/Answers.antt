use Rattle.std.proofs.Common.{◌∙◌, ◌+◌, ◌++◌, [], ◌∷◌, take, sym, ap}
use Rattle.std.proofs.lemmas.List.{take_more}
use Rattle.ra_richpresence.proofs.SpanRows.{laid-more}
use Rattle.ra_richpresence.proofs.spans.spans_of_lookups.Goals as goal

pub loop-lookup-preserved : goal.loop-lookup-preserved
loop-lookup-preserved c =
    let lookups = c.args.lookups.now in
    let i = c.loop-lookup.lookup-index in
    rw c.in_ok-push.ensures.items
    (laid-more (take i lookups) (take (i + 1) lookups) c.loop-lookup.spans.items c.lookup-item.result
    c.in_ok-spans_of_keys.field-0
    (take_more lookups i c.lookup-item.result c.loop-lookup-test.true
    ∙ ap (λ y. take i lookups ++ y ∷ []) (sym c.lookup-item.is)) c.loop-lookup.invariant
    (rw c.deref.ensures.value at c.in_ok-spans_of_keys.ensures))
