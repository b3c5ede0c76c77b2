use Rattle.std.proofs.Common.{◌∙◌, drop, ap, arith}
use Rattle.ra_review.proofs.FormatLemmas.{behind_byte, space_short, behind_is, none_behind, some_behind}
use Rattle.ra_review.proofs.formats.behind_space.Goals as goal

pub split_at-requires : goal.split_at-requires
split_at-requires c = let short = space_short c.args.text.now in omega (arith, short, c.space_at.ensures)

pub returns-in-empty : goal.returns-in-empty
returns-in-empty c =
    none_behind c.split_at.result.1.now c.in-empty.len_below
    ∙ ap behind_byte (c.split_at.ensures.back ∙ ap (λ n. drop n c.args.text.now) c.space_at.ensures)
    ∙ behind_is c.args.text.now

pub returns-in-len1-up : goal.returns-in-len1-up
returns-in-len1-up c =
    some_behind c.split_at.result.1.now c.in-len1-up.len_at_least
    ∙ ap behind_byte (c.split_at.ensures.back ∙ ap (λ n. drop n c.args.text.now) c.space_at.ensures)
    ∙ behind_is c.args.text.now
