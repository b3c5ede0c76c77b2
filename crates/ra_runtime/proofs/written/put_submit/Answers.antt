use Rattle.std.proofs.Common.{◌∷◌, [], ◌++◌, ◌∙◌, ap, codes, decimal, w32}
use Rattle.std.specs.Fmt.{signed_decimal}
use Rattle.std.proofs.lemmas.Int.{to_z-of_z}
use Rattle.ra_value_format.specs.Formats.{formatted}
use Rattle.ra_runtime.proofs.LineLemmas.{submit_words}
use Rattle.ra_runtime.proofs.written.put_submit.Goals as goal

pub returns : goal.returns
returns c =
    let value = signed_decimal c.args.value in
    let text = formatted c.args.format c.args.value in
    let number = to_z-of_z w32 c.args.value c.ranges.value in
    c.in_ok-push-3.ensures.items
    ∙ ap (λ t. t ++ 10 ∷ []) (c.in_ok-put_value-2.ensures
    ∙ ap (λ n. c.push-2.new.self.items ++ formatted c.args.format n) number
    ∙ ap (λ t. t ++ text) (c.in_ok-push-2.ensures.items ∙ ap (λ t. t ++ 32 ∷ [])
    (c.in_ok-put_value.ensures ∙ ap (λ n. c.push.new.self.items ++ signed_decimal n) number
    ∙ ap (λ t. t ++ value) (c.in_ok-push.ensures.items ∙ ap (λ t. t ++ 32 ∷ []) c.in_ok-put_head.ensures))))
    ∙ submit_words c.args.out.now.items (codes "submit") (decimal c.args.subject.frame)
    (decimal c.args.subject.id) value text
