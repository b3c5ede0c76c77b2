use Rattle.std.proofs.Common.{◌∙◌, ◌∷◌, ◌++◌, [], ap, codes, decimal}
use Rattle.ra_review.proofs.TextLemmas.{three_numbers}
use Rattle.ra_review.proofs.shown.put_last.Goals as goal

pub returns : goal.returns
returns c =
    let out = c.args.out.now.items in
    c.in_ok-push.ensures.items
    ∙ ap (λ t. t ++ 10 ∷ []) (c.in_ok-put_number-3.ensures ∙ ap (λ t. t ++ codes " notices " ++ decimal c.args.notices)
    (c.in_ok-put_number-2.ensures
    ∙ ap (λ t. t ++ codes " refused " ++ decimal c.args.refused) c.in_ok-put_number.ensures))
    ∙ three_numbers out (codes "reviewed lines ") (decimal c.args.lines) (codes " refused ")
    (decimal c.args.refused) (codes " notices ") (decimal c.args.notices) (10 ∷ [])
