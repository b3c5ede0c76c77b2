use Rattle.std.proofs.Common.{◌∙◌, ◌++◌, ap, arith, take}
use Rattle.ra_review.proofs.TextLemmas.{shown_front}
use Rattle.ra_review.proofs.shown.put_shown.Goals as goal

pub returns : goal.returns
returns c =
    c.loop-byte.invariant ∙ ap (λ t. c.args.out.now.items ++ t)
    (shown_front c.split_at.result.0.now c.args.bytes.now c.loop-byte.byte-index
    (c.split_at.ensures.front ∙ ap (λ n. take n c.args.bytes.now) c.min.ensures) (omega arith))
