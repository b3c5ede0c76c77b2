use Rattle.std.proofs.Common.{◌∙◌, ◌∷◌, ◌++◌, [], ap, ap₂, codes, drop, min, replicate}
use Rattle.std.proofs.lemmas.List.{drop_min}
use Rattle.ra_review.specs.Shown.{shown}
use Rattle.ra_review.proofs.TextLemmas.{blanks_before}
use Rattle.ra_review.proofs.shown.put_place.Goals as goal

pub returns : goal.returns
returns c =
    let out = c.args.out.now.items in
    let line = c.args.line.now in
    let place = c.args.place in
    let start = c.saturating_sub-start.result in
    let left = c.split_at.ensures.back ∙ ap (λ n. drop n line) c.min.ensures ∙ drop_min start line in
    let shown_is = ap shown left ∙ ap (λ n. shown (drop n line)) c.saturating_sub-start.ensures in
    c.in_ok-extend_from_slice.ensures.items
    ∙ ap (λ t. t ++ codes "^\n") (c.in_ok-put_blanks.ensures
    ∙ ap₂ (λ t b. t ++ b) (c.in_ok-push.ensures.items
    ∙ ap (λ t. t ++ 10 ∷ []) (c.in_ok-put_shown.ensures ∙ ap (λ t. out ++ t) shown_is))
    (ap (λ n. replicate n 32) (c.min-3.ensures ∙ ap (λ n. min n 120) c.min-2.ensures)
    ∙ blanks_before place start line c.split_at.result.1.now c.saturating_sub-start.ensures left))
