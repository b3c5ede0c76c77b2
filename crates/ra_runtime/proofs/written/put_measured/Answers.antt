use Rattle.std.proofs.Common.{◌∷◌, [], ◌++◌, ◌∙◌, ap, codes, decimal}
use Rattle.ra_runtime.proofs.LineLemmas.{number_words}
use Rattle.ra_runtime.proofs.written.put_measured.Goals as goal

pub returns : goal.returns
returns c =
    let number = decimal c.args.number in
    c.in_ok-push-2.ensures.items
    ∙ ap (λ t. t ++ 10 ∷ []) (c.in_ok-put_unsigned.ensures
    ∙ ap (λ n. c.push.new.self.items ++ decimal n) c.from.ensures ∙ ap (λ t. t ++ number)
    (c.in_ok-push.ensures.items ∙ ap (λ t. t ++ 32 ∷ []) c.in_ok-put_head.ensures))
    ∙ number_words c.args.out.now.items (codes "measured") (decimal c.args.subject.frame)
    (decimal c.args.subject.id) number
