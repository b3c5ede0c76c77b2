use Rattle.std.proofs.Common.{◌∷◌, [], ◌++◌, ◌∙◌, ap, codes, decimal, w32}
use Rattle.std.proofs.lemmas.Int.{to_z-of_z}
use Rattle.ra_value_format.specs.Formats.{formatted}
use Rattle.ra_runtime.proofs.LineLemmas.{number_words}
use Rattle.ra_runtime.proofs.written.put_track.Goals as goal

pub returns : goal.returns
returns c =
    let text = formatted c.args.format c.args.tracked in
    let number = ap (formatted c.args.format) (to_z-of_z w32 c.args.tracked c.ranges.tracked) in
    c.in_ok-push-2.ensures.items
    ∙ ap (λ t. t ++ 10 ∷ []) (c.in_ok-put_value.ensures ∙ ap (λ t. c.push.new.self.items ++ t) number
    ∙ ap (λ t. t ++ text) (c.in_ok-push.ensures.items ∙ ap (λ t. t ++ 32 ∷ []) c.in_ok-put_head.ensures))
    ∙ number_words c.args.out.now.items (codes "track") (decimal c.args.subject.frame) (decimal c.args.subject.id) text
