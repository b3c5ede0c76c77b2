use Rattle.std.proofs.Common.{◌∙◌, take, ap, arith}
use Rattle.ra_review.proofs.FormatLemmas.{space_short, before_is}
use Rattle.ra_review.proofs.formats.before_space.Goals as goal

pub split_at-requires : goal.split_at-requires
split_at-requires c = let short = space_short c.args.text.now in omega (arith, short, c.space_at.ensures)

pub returns : goal.returns
returns c = c.split_at.ensures.front ∙ ap (λ n. take n c.args.text.now) c.space_at.ensures ∙ before_is c.args.text.now
