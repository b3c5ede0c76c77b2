use Rattle.std.proofs.Common.{◌++◌, option_to_list}
use Rattle.ra_progress.proofs.Orders.{range_between}
use Rattle.ra_progress.proofs.range.range.Goals as goal

pub returns : goal.returns
returns c =
    range_between (c.args.names.now ++ option_to_list c.args.last.now) c.args.order.now
    c.args.name.now c.first_not_before-from.result c.first_behind-to.result
    c.first_not_before-from.ensures.most c.first_behind-to.ensures.most
    c.first_not_before-from.ensures.before c.first_not_before-from.ensures.behind
    c.first_behind-to.ensures.before c.first_behind-to.ensures.behind
