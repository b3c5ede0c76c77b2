use Rattle.std.proofs.Common.{◌≡◌, suc, ◌+◌, ◌*◌, ◌<◌, ◌≤◌, length, get_or, arith, ap, subst, sym}
use Rattle.ra_condition.specs.Chains.{pass_order}
use Rattle.ra_condition.proofs.OrderLemmas.{order_below}
use Rattle.ra_chain.specs.Planting.{IsKept}
use Rattle.ra_chain.specs.Sides.{JoinsValues, IsKnownBefore, TakesCondition}
use Rattle.ra_condition.specs.Contents.{condition_at}
use Rattle.ra_chain.proofs.OrderPlaces.{turn_at}
use Rattle.ra_chain.proofs.PlantLemmas.{kept_through}
use Rattle.ra_chain.proofs.WalkLemmas.{IsRunning, order_length, running_none, running_known, running_more}
use Rattle.ra_chain.proofs.WalkLemmas.{running_lefts, running_rights, running_grows}
use Rattle.ra_chain.proofs.trees.take_conditions.Goals as goal

pub take_condition-requires-clause-room : goal.take_condition-requires-clause-room
take_condition-requires-clause-room c = record {
  pool = c.loop-place.invariant.kept.pool;
  room = omega (
    arith,
    c.loop-place.invariant.kept.adds.nodes_too,
    c.requires.room.room,
    c.loop-place-test.true,
    ap length c.requires.order,
    order_length c.args.conditions.now,
  );
}

pub take_condition-requires-clause-within : goal.take_condition-requires-clause-within
take_condition-requires-clause-within c =
    let turn : c.loop-place.place-index < length (pass_order c.args.conditions.now) =
    omega (arith, c.loop-place-test.true, ap length c.requires.order) in
    subst (λ o. get_or o c.loop-place.place-index 0 < length c.args.conditions.now) (sym c.requires.order)
    (order_below c.args.conditions.now c.loop-place.place-index turn)

pub take_condition-requires-clause-joins : goal.take_condition-requires-clause-joins
take_condition-requires-clause-joins c =
    let turn : c.loop-place.place-index < length (pass_order c.args.conditions.now) =
    omega (arith, c.loop-place-test.true, ap length c.requires.order) in
    subst (λ o. JoinsValues (condition_at c.args.conditions.now (get_or o c.loop-place.place-index 0)))
    (sym c.requires.order) (c.requires.joins (turn_at c.args.conditions.now c.loop-place.place-index)
    (order_below c.args.conditions.now c.loop-place.place-index turn))

pub take_condition-requires-clause-sized : goal.take_condition-requires-clause-sized
take_condition-requires-clause-sized c = c.loop-place.invariant.sized

pub take_condition-requires-clause-known : goal.take_condition-requires-clause-known
take_condition-requires-clause-known c =
    let turn : c.loop-place.place-index < length (pass_order c.args.conditions.now) =
    omega (arith, c.loop-place-test.true, ap length c.requires.order) in
    subst (λ o. IsKnownBefore c.args.conditions.now (get_or o c.loop-place.place-index 0) c.loop-place.passed
    c.loop-place.pool) (sym c.requires.order) (running_known c.args.conditions.now c.args.pool.now
    c.loop-place.place-index c.loop-place.passed c.loop-place.pool turn c.loop-place.invariant)

pub loop-place-init : goal.loop-place-init
loop-place-init c = running_none c.args.conditions.now c.args.pool.now c.args.passed.now c.requires.room.pool
    c.requires.sized c.requires.none

pub loop-place-preserved : goal.loop-place-preserved
loop-place-preserved c =
    let turn : c.loop-place.place-index < length (pass_order c.args.conditions.now) =
    omega (arith, c.loop-place-test.true, ap length c.requires.order) in
    let e = c.in_ok-take_condition.ensures in
    let takes = subst (λ o. TakesCondition c.args.conditions.now (get_or o c.loop-place.place-index 0)
    c.loop-place.passed c.take_condition.new.self c.loop-place.pool c.take_condition.new.pool) c.requires.order e.ok
    in
    let next : suc c.loop-place.place-index ≡ c.loop-place.place-index + 1 = omega arith in
    subst (λ k. IsRunning c.args.conditions.now c.args.pool.now k c.take_condition.new.self c.take_condition.new.pool)
    next
    (running_more c.args.conditions.now c.args.pool.now c.loop-place.place-index c.loop-place.passed c.loop-place.pool
    turn c.loop-place.invariant c.take_condition.new.self c.take_condition.new.pool takes e.kept e.sized)

pub returns-clause-lefts : goal.returns-clause-lefts
returns-clause-lefts c =
    let end : c.loop-place.place-index ≡ length (pass_order c.args.conditions.now) =
    omega (arith, c.loop-place-test.false, c.loop-place.auto.place-index-end, ap length c.requires.order) in
    running_lefts c.args.conditions.now c.args.pool.now c.loop-place.passed c.loop-place.pool (subst (λ k. IsRunning
    c.args.conditions.now c.args.pool.now k c.loop-place.passed c.loop-place.pool) end c.loop-place.invariant)

pub returns-clause-rights : goal.returns-clause-rights
returns-clause-rights c =
    let end : c.loop-place.place-index ≡ length (pass_order c.args.conditions.now) =
    omega (arith, c.loop-place-test.false, c.loop-place.auto.place-index-end, ap length c.requires.order) in
    running_rights c.args.conditions.now c.args.pool.now c.loop-place.passed c.loop-place.pool (subst (λ k. IsRunning
    c.args.conditions.now c.args.pool.now k c.loop-place.passed c.loop-place.pool) end c.loop-place.invariant)

pub returns-clause-grows : goal.returns-clause-grows
returns-clause-grows c =
    let end : c.loop-place.place-index ≡ length (pass_order c.args.conditions.now) =
    omega (arith, c.loop-place-test.false, c.loop-place.auto.place-index-end, ap length c.requires.order) in
    running_grows c.args.conditions.now c.args.pool.now c.loop-place.passed c.loop-place.pool (subst (λ k. IsRunning
    c.args.conditions.now c.args.pool.now k c.loop-place.passed c.loop-place.pool) end c.loop-place.invariant)

pub returns-clause-kept : goal.returns-clause-kept
returns-clause-kept c =
    let end : c.loop-place.place-index ≡ length c.args.conditions.now =
    omega (
      arith,
      c.loop-place-test.false,
      c.loop-place.auto.place-index-end,
      ap length c.requires.order,
      order_length c.args.conditions.now,
    ) in
    subst (λ k. IsKept c.args.pool.now c.loop-place.pool (12 * k) (2 * k) (2 * k)) end c.loop-place.invariant.kept

pub returns-in_err-take_condition-clause-kept : goal.returns-in_err-take_condition-clause-kept
returns-in_err-take_condition-clause-kept c =
    let k = c.loop-place.place-index in
    let n = length c.args.conditions.now in
    let room : k + 1 ≤ n =
    omega (arith, c.loop-place-test.true, ap length c.requires.order, order_length c.args.conditions.now) in
    kept_through c.args.pool.now c.loop-place.pool c.take_condition.new.pool (12 * k) (2 * k) (2 * k) 12 2 2 (12 * n)
    (2 * n) (2 * n) (omega (arith, room)) (omega (arith, room))
    (omega (arith, room)) c.loop-place.invariant.kept c.in_err-take_condition.ensures.kept
