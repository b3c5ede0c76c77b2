use Rattle.std.proofs.Common.{◌∙◌, ◌+◌, ◌/◌, ◌++◌, length, take, sym, ap, subst}
use Rattle.std.proofs.lemmas.List.{take-append-drop}
use Rattle.ra_richpresence.specs.Spans.{AreSpans, line_of}
use Rattle.ra_richpresence.proofs.SpanRows.{keys-laid}
use Rattle.ra_richpresence.proofs.spans.+spans_of_keys.Goals as goal

pub returns-in_ok-under-in_default : goal.returns-in_ok-under-in_default
returns-in_ok-under-in_default t c =
    let keys = c.args.keys.now in
    let half = length keys / 2 in
    let earlier = c.split_at.result.0.now in
    let later = c.split_at.result.1.now in
    keys-laid c.laid_over.result c.args.at half earlier later keys c.deref-in_default.result.now
    c.deref-in_default-2.result.now
    (sym (ap (λ ks. ks ++ later) c.split_at.ensures.front ∙ ap (λ ks. take half keys ++ ks) c.split_at.ensures.back
    ∙ take-append-drop half keys)) c.split_at.ensures.front_len
    (subst (AreSpans (line_of c.args.at earlier))
    (sym c.deref-in_default.ensures.value) c.in_ok-over-in_default.ensures)
    (subst (AreSpans (line_of (c.args.at + half) later))
    (sym c.deref-in_default-2.ensures.value) c.in_ok-under-in_default.ensures) c.laid_over.ensures.rise
    c.laid_over.ensures.found
