use Rattle.std.proofs.Common.{◌≡◌, ◌∷◌, [], ◌++◌, ◌∙◌, ap, decimal}
use Rattle.ra_runtime.proofs.LineLemmas.{head_words}
use Rattle.ra_runtime.proofs.written.put_head.Goals as goal

pub returns : goal.returns
returns c =
    let out = c.args.out.now.items in
    let frame = decimal c.args.subject.frame in
    let id = decimal c.args.subject.id in
    let begun : c.extend_from_slice.new.self.items ≡ out ++ c.args.word.now =
    c.in_ok-extend_from_slice.ensures.items ∙ ap (λ t. t ++ c.as_bytes.result.now)
    c.reserve.ensures.items ∙ ap (λ w. out ++ w) c.as_bytes.ensures.value in
    c.in_ok-put_unsigned-2.ensures ∙ ap (λ n. c.push-2.new.self.items ++ decimal n) c.from.ensures
    ∙ ap (λ t. t ++ id) (c.in_ok-push-2.ensures.items
    ∙ ap (λ t. t ++ 32 ∷ []) (c.in_ok-put_unsigned.ensures
    ∙ ap (λ t. t ++ frame) (c.in_ok-push.ensures.items ∙ ap (λ t. t ++ 32 ∷ []) begun)))
    ∙ head_words out c.args.word.now frame id
