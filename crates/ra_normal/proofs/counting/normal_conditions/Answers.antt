use Rattle.std.proofs.Common.{map, ap, arith}
use Rattle.std.specs.List.{sum_by}
use Rattle.ra_set.specs.Contents.{item_contents, set_contents}
use Rattle.ra_normal.specs.Counting.{legacy_in_item}
use Rattle.ra_normal.proofs.CountingLemmas.{conditions_more}
use Rattle.ra_normal.proofs.counting.normal_conditions.Goals as goal

pub conditions-requires : goal.conditions-requires
conditions-requires c = let more = conditions_more (set_contents c.args.set.now) in omega (arith, more, c.requires)

pub in_items-requires : goal.in_items-requires
in_items-requires c =
    let more = conditions_more (set_contents c.args.set.now) in
    let same = ap (λ items. sum_by legacy_in_item (map item_contents items)) c.deref.ensures.value in
    omega (arith, more, same, c.requires)

pub overflow_add-result : goal.overflow_add-result
overflow_add-result c =
    let more = conditions_more (set_contents c.args.set.now) in
    let same = ap (λ items. sum_by legacy_in_item (map item_contents items)) c.deref.ensures.value in
    omega (arith, more, same, c.requires, c.conditions.ensures, c.in_items.ensures)

pub returns : goal.returns
returns c =
    let more = conditions_more (set_contents c.args.set.now) in
    let same = ap (λ items. sum_by legacy_in_item (map item_contents items)) c.deref.ensures.value in
    omega (arith, more, same, c.conditions.ensures, c.in_items.ensures)
