use Rattle.std.proofs.Common.{arith}
use Rattle.ra_member.proofs.SideLemmas.{left_valued, right_valued}
use Rattle.ra_member.proofs.reading.read_conditions.Goals as goal

pub value-left-requires-clause-within : goal.value-left-requires-clause-within
value-left-requires-clause-within c =
    (left_valued _ c.args.sides.now c.loop-place.place _ (omega (arith, c.least-place-end.ensures))
    c.requires.left_nodes).0

pub value-left-requires-clause-valued : goal.value-left-requires-clause-valued
value-left-requires-clause-valued c =
    (left_valued _ c.args.sides.now c.loop-place.place _ (omega (arith, c.least-place-end.ensures))
    c.requires.left_nodes).1

pub value-right-requires-clause-within : goal.value-right-requires-clause-within
value-right-requires-clause-within c =
    (right_valued _ c.args.sides.now c.loop-place.place _ (omega (arith, c.least-place-end.ensures))
    c.requires.right_nodes).0

pub value-right-requires-clause-valued : goal.value-right-requires-clause-valued
value-right-requires-clause-valued c =
    (right_valued _ c.args.sides.now c.loop-place.place _ (omega (arith, c.least-place-end.ensures))
    c.requires.right_nodes).1
