use Rattle.std.proofs.Common.{◌∙◌, ap}
use Rattle.ra_richpresence.specs.Placed.{without_return}
use Rattle.ra_richpresence.proofs.Splits.{splits-turn, splits-whole}
use Rattle.ra_richpresence.proofs.cut.split_line.Goals as goal

pub returns-in-len1-up : goal.returns-in-len1-up
returns-in-len1-up c = splits-turn c.args.text.now c.feed_at-end.result c.without_return.result.now
    c.split_at.result.1.now c.feed_at-end.ensures c.split_at.ensures.back c.in-len1-up.len_at_least
    (c.without_return.ensures ∙ ap without_return c.split_at.ensures.front)

pub returns-in-empty : goal.returns-in-empty
returns-in-empty c = splits-whole c.args.text.now c.feed_at-end.result c.split_at.result.0.now
    c.split_at.result.1.now c.feed_at-end.ensures c.split_at.ensures.back c.in-empty.len_below
    c.split_at.ensures.front
