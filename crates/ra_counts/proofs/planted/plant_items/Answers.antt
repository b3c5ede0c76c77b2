use Rattle.std.proofs.Common.{◌≡◌, ◌+◌, ◌++◌, ◌∷◌, [], map, take, sum_by, subst, sym, arith}
use Rattle.std.specs.List.{flat_map}
use Rattle.ra_set.specs.Contents.{item_contents}
use Rattle.ra_set.specs.Limits.{item_conditions}
use Rattle.ra_set.specs.Spelled.{IsItem}
use Rattle.ra_meaning.specs.Order.{trees_in_item}
use Rattle.ra_member.specs.Plans.{GrowsWithin}
use Rattle.ra_member.proofs.GrowthLemmas.{grows_more, taken_next, holds_at, weight_at}
use Rattle.ra_counts.proofs.planted.plant_items.Goals as goal

pub plant_item-requires-clause-spelled : goal.plant_item-requires-clause-spelled
plant_item-requires-clause-spelled c =
    let p = c.loop-item in
    holds_at item_contents c.args.items.now p.item-index c.item-item.result c.loop-item-test.true c.item-item.is
    IsItem
    c.requires.spelled

pub plant_item-requires-clause-room : goal.plant_item-requires-clause-room
plant_item-requires-clause-room c =
    let p = c.loop-item in
    let weight = weight_at item_contents c.args.items.now p.item-index c.item-item.result c.loop-item-test.true
    c.item-item.is item_conditions in
    omega (arith, weight, p.invariant.few, c.requires.room)

pub loop-item-preserved : goal.loop-item-preserved
loop-item-preserved c =
    let items = c.args.items.now in
    let p = c.loop-item in
    let k = p.item-index in
    let item = c.item-item.result in
    let old = c.args.pool.now in
    let new = c.plant_item.new.pool in
    let next : map item_contents (take (k + 1) items) ≡ map item_contents (take k items) ++ item_contents item ∷ []
    = taken_next item_contents items k item c.loop-item-test.true c.item-item.is in
    let more = grows_more trees_in_item item_conditions old p.pool new (map item_contents (take k items))
    (item_contents item) p.invariant c.in_ok-plant_item.ensures in
    subst (λ xs. GrowsWithin old new (flat_map trees_in_item xs) (sum_by item_conditions xs)) (sym next) more
