use Rattle.std.proofs.Common.{List, map, take, subst, arith}
use Rattle.std.proofs.lemmas.List.{take_all}
use Rattle.ra_set.specs.declared.item.Item.{Item}
use Rattle.ra_set.specs.Contents.{item_contents}
use Rattle.ra_member.proofs.GrowthLemmas.{taken_next}
use Rattle.ra_items.specs.Rests.{HaveRooms}
use Rattle.ra_items.proofs.MadeRests.{rooms_more}
use Rattle.ra_items.proofs.rests.counts_of.Goals as goal

pub loop-item-preserved : goal.loop-item-preserved
loop-item-preserved c =
    let items = c.args.items.now in
    let k = c.loop-item.item-index in
    let item = c.item-item.result in
    rw (taken_next item_contents items k item c.loop-item-test.true c.item-item.is, c.in_ok-push.ensures.items)
    (rooms_more (map item_contents (take k items)) c.loop-item.counts.items
    (item_contents item) c.in_ok-own.own c.loop-item.invariant c.in_ok-own.ensures)

pub returns : goal.returns
returns c =
    let items = c.args.items.now in
    subst (λ (is : List Item). HaveRooms (map item_contents is) c.loop-item.counts.items) (take_all
    c.loop-item.item-index items (omega (arith, c.loop-item-test.false))) c.loop-item.invariant
