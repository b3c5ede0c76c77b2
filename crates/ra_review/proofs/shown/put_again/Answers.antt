use Rattle.std.proofs.Common.{◌∙◌, ◌∷◌, ◌++◌, [], ap, codes, decimal}
use Rattle.ra_review.proofs.TextLemmas.{three_numbers}
use Rattle.ra_review.proofs.shown.put_again.Goals as goal

pub returns : goal.returns
returns c =
    let out = c.args.out.now.items in
    c.in_ok-push.ensures.items
    ∙ ap (λ t. t ++ 10 ∷ []) (c.in_ok-put_number-3.ensures
    ∙ ap (λ t. t ++ codes " again, first on line " ++ decimal c.args.first)
    (c.in_ok-put_number-2.ensures ∙ ap (λ t. t ++ codes " id " ++ decimal c.args.id) c.in_ok-put_number.ensures))
    ∙ three_numbers out (codes "line ") (decimal c.args.number) (codes " id ") (decimal c.args.id)
    (codes " again, first on line ") (decimal c.args.first) (10 ∷ [])
