use Rattle.std.proofs.Common.{◌≡◌, ◌+◌, sym, sum_by, arith}
use Rattle.ra_progress.specs.Contents.{shape_contents, own_entries}
use Rattle.ra_progress.specs.Layout.{item_length, own_length}
use Rattle.ra_progress.proofs.Owns.{own_total}
use Rattle.ra_progress.proofs.places.file_length.Goals as goal

pub returns : goal.returns
returns c =
    let items : c.items_length.result ≡ sum_by item_length c.args.shape.now.items.items =
    rw c.deref.ensures.value at c.items_length.ensures.sum in
    let total : c.items_length.result + c.script_length.result
    ≡ sum_by own_length (own_entries (shape_contents c.args.shape.now)) =
    rw (items, c.script_length.ensures.length) (sym (own_total (shape_contents c.args.shape.now) c.requires.paired)) in
    rw (c.from.ensures, c.own_count.ensures) (omega (arith, total))
