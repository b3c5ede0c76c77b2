use Rattle.std.proofs.Common.{◌∙◌, ap}
use Rattle.std.proofs.lemmas.List.{get_or_read}
use Rattle.ra_progress.specs.Contents.{shape_contents, own_entries, own_at}
use Rattle.ra_progress.proofs.OwnOrder.{number_within}
use Rattle.ra_progress.proofs.entries.own_in_order.Goals as goal

pub own_shape-requires-clause-number : goal.own_shape-requires-clause-number
own_shape-requires-clause-number c =
    let read = get_or_read c.args.shape.now.entry_order.items c.args.place c.index.result.now
    c.requires.place c.index.ensures 0 in
    rw read (number_within c.args.shape.now c.requires.usable c.args.place c.requires.place)

pub returns : goal.returns
returns c =
    let read = get_or_read c.args.shape.now.entry_order.items c.args.place c.index.result.now
    c.requires.place c.index.ensures 0 in
    c.own_shape.ensures ∙ ap (λ n. (own_at (own_entries (shape_contents c.args.shape.now)) n).shape) read
