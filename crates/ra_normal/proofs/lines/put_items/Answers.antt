use Rattle.std.proofs.Common.{◌∙◌, sym, ap, subst, arith}
use Rattle.std.proofs.Math.ListN.{get_or-map}
use Rattle.std.proofs.lemmas.List.{length-map}
use Rattle.ra_set.specs.Contents.{item_contents}
use Rattle.ra_set.specs.Spelled.{IsItem}
use Rattle.ra_normal.proofs.lines.put_items.Goals as goal

pub put_item-requires : goal.put_item-requires
put_item-requires c =
    let here = c.requires c.loop-item.item-index (item_contents c.item-item.result)
    (omega (arith, c.loop-item-test.true, length-map c.args.items.now item_contents)) in
    subst IsItem (get_or-map item_contents c.args.items.now c.loop-item.item-index
    c.item-item.result ∙ ap item_contents (sym c.item-item.is)) here
