use Rattle.std.proofs.Common.{◌+◌, map, subst}
use Rattle.ra_schedule.specs.Readers.{Wakes}
use Rattle.ra_schedule.proofs.WhoReads.WakeLemmas.{from_zero, wakes_both}
use Rattle.ra_schedule.proofs.waking.wake.Goals as goal

pub returns-else-all-clause-wakes : goal.returns-else-all-clause-wakes
returns-else-all-clause-wakes c = λ some.
    let nodes = c.args.table.now.changed in
    let truths = c.args.truths.now in
    let first = c.args.readers.now in
    let mid = c.wake.new.self in
    let last = c.wake-else-all.new.self in
    let one : Wakes (map (λ n. 0 + n) nodes) first mid = rw c.changed.ensures at c.wake.ensures in
    let two : Wakes (map (λ n. truths.nodes + n) truths.flipped) mid last =
    rw (c.nodes.ensures, c.flipped.ensures.numbers) at c.wake-else-all.ensures in
    wakes_both nodes (map (λ n. truths.nodes + n) truths.flipped) first mid last
    (subst (λ ns. Wakes ns first mid) (from_zero nodes) one) two
