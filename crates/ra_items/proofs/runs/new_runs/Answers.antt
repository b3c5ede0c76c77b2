use Rattle.std.proofs.Common.{◌≡◌, ◌+◌, ◌++◌, ◌∷◌, [], map, take, arith}
use Rattle.ra_set.specs.Contents.{item_contents}
use Rattle.ra_set.specs.Limits.{item_conditions}
use Rattle.ra_set.specs.Spelled.{IsItem}
use Rattle.ra_member.proofs.GrowthLemmas.{taken_next, holds_at, weight_at}
use Rattle.ra_items.proofs.WaitingLemmas.{waiting_more}
use Rattle.ra_items.proofs.runs.new_runs.Goals as goal

pub new-requires-clause-spelled : goal.new-requires-clause-spelled
new-requires-clause-spelled c =
    holds_at item_contents c.args.items.now c.loop-item.item-index c.item-item.result
    c.loop-item-test.true c.item-item.is IsItem c.requires.spelled

pub new-requires-clause-room : goal.new-requires-clause-room
new-requires-clause-room c =
    omega (
      arith,
      weight_at item_contents c.args.items.now c.loop-item.item-index c.item-item.result
          c.loop-item-test.true c.item-item.is item_conditions,
      c.loop-item.invariant.grows.few,
      c.requires.room,
    )

pub loop-item-preserved : goal.loop-item-preserved
loop-item-preserved c =
    let items = c.args.items.now in
    let k = c.loop-item.item-index in
    let item = c.item-item.result in
    let next : map item_contents (take (k + 1) items) ≡ map item_contents (take k items)
    ++ item_contents item ∷ [] =
    taken_next item_contents items k item c.loop-item-test.true c.item-item.is in
    let more = waiting_more c.args.pool.now c.loop-item.pool c.new.new.pool
    (map item_contents (take k items)) c.loop-item.runs.items
    (item_contents item) c.in_ok-run.run' c.loop-item.invariant c.in_ok-run.ensures in
    rw (next, c.in_ok-push.ensures.items) more
