use Rattle.std.proofs.Common.{List, map, sym, subst}
use Rattle.std.specs.Prelude.{All}
use Rattle.ra_set.specs.Contents.{item_contents, set_contents}
use Rattle.ra_set.specs.Spelled.{IsItem}
use Rattle.ra_set.specs.declared.item.Item.{Item}
use Rattle.ra_normal.proofs.AcceptedLemmas.{items_are}
use Rattle.ra_normal.proofs.text.normal_text.Goals as goal

pub put_items-requires : goal.put_items-requires
put_items-requires c =
    subst (λ (items : List Item). All IsItem (map item_contents items)) (sym c.deref.ensures.value)
    (items_are c.args.bytes.now (set_contents c.args.set.now) c.requires.spelled)
