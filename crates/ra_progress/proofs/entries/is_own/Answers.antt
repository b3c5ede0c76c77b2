use Rattle.std.proofs.Common.{◌∙◌, sym, ap, bytes_eq, length, nat_lt}
use Rattle.ra_progress.specs.Contents.{shape_contents, own_entries, own_at}
use Rattle.ra_progress.proofs.OwnOrder.{any_filter, many_between}
use Rattle.ra_progress.proofs.entries.is_own.Goals as goal

pub returns : goal.returns
returns c =
    let owns = own_entries (shape_contents c.args.shape.now) in
    sym (any_filter (λ own. bytes_eq own.name c.args.name.now) owns
    ∙ ap (λ xs. nat_lt 0 (length xs)) c.own_range-from.ensures.named
    ∙ many_between
    (own_at owns) c.args.shape.now.entry_order.items c.own_range-from.result.0
    c.own_range-from.result.1 c.own_range-from.ensures.rising c.own_range-from.ensures.most)
