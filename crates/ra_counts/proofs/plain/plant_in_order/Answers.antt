use Rattle.std.proofs.Common.{◌≡◌, ◌+◌, ◌*◌, ◌<◌, length, get_or, ap, arith, subst, sym, ◌∙◌}
use Rattle.std.proofs.lemmas.List.{get_or_default}
use Rattle.ra_condition.specs.Chains.{pass_order}
use Rattle.ra_condition.proofs.OrderLemmas.{place_below}
use Rattle.ra_indirect.specs.Trees.{constant}
use Rattle.ra_chain.specs.Planting.{IsKept}
use Rattle.ra_chain.proofs.PlantLemmas.{spells_more, kept_through}
use Rattle.ra_chain.proofs.WalkLemmas.{order_length}
use Rattle.ra_counts.proofs.PlainLemmas.{plain_more}
use Rattle.ra_counts.proofs.plain.plant_in_order.Goals as goal

pub bounds-conditions-place : goal.bounds-conditions-place
bounds-conditions-place c =
    place_below c.args.conditions.now c.args.order.now c.loop-place.place-index c.requires.order c.loop-place-test.true

pub plant_condition-requires-clause-room : goal.plant_condition-requires-clause-room
plant_condition-requires-clause-room c =
    let many = ap length c.requires.order in
    let all = order_length c.args.conditions.now in
    omega (arith, c.loop-place.invariant.kept.adds.nodes_too, c.requires.room, c.loop-place-test.true, many, all)

pub loop-place-preserved : goal.loop-place-preserved
loop-place-preserved c =
    let p = c.loop-place in
    let k = p.place-index in
    let cs = c.args.conditions.now in
    let old = c.args.pool.now in
    let new = c.plant_condition.new.pool in
    let e = c.in_ok-plant_condition.ensures in
    let j = get_or c.args.order.now k 0 in
    let turn : k < length (pass_order cs) = omega (arith, c.loop-place-test.true, ap length c.requires.order) in
    let same : get_or (pass_order cs) k 0 ≡ j = ap (λ o. get_or o k 0) (sym c.requires.order) in
    let here : get_or (pass_order cs) k j ≡ j = get_or_default (pass_order cs) k j 0 turn ∙ same in
    let front = e.kept.front in
    record {
      grows = plain_more cs c.requires.plain old p.pool new k j turn here p.invariant.grows e.grows;
      kept = kept_through old p.pool new (4 * k) (2 * k) (2 * k) 4 2 2 (4 * (k + 1)) (2 * (k + 1)) (2 * (k + 1))
          (omega arith) (omega arith) (omega arith) p.invariant.kept e.kept;
      nought = spells_more p.pool new c.args.zero (constant 0) front p.invariant.nought;
    }

pub returns-clause-kept : goal.returns-clause-kept
returns-clause-kept c =
    let p = c.loop-place in
    let k = p.place-index in
    let cs = c.args.conditions.now in
    let many = ap length c.requires.order in
    let all = order_length cs in
    let end : k ≡ length cs = omega (arith, c.loop-place-test.false, p.auto.place-index-end, many, all) in
    subst (λ n. IsKept c.args.pool.now p.pool (4 * n) (2 * n) (2 * n)) end p.invariant.kept
