use Rattle.std.proofs.Common.{◌∷◌, [], ◌++◌, ◌∙◌, ap, decimal}
use Rattle.ra_runtime.proofs.LineLemmas.{change_words}
use Rattle.ra_runtime.proofs.written.put_change.Goals as goal

pub returns : goal.returns
returns c =
    c.in_ok-push.ensures.items ∙ ap (λ t. t ++ 10 ∷ []) c.in_ok-put_head.ensures
    ∙ change_words c.args.out.now.items c.args.word.now (decimal c.args.subject.frame) (decimal c.args.subject.id)
