use Rattle.std.proofs.Common.{◌≡◌, ◌+◌, ◌∙◌, length, sym, subst, arith}
use Rattle.std.proofs.lemmas.Option.{get_or_from_slice_get}
use Rattle.ra_indirect.specs.declared.node.Node.TheVariants.{Const}
use Rattle.ra_indirect.specs.Pools.{node_at}
use Rattle.ra_lint.specs.Judging.{JoinsBelow, node_range}
use Rattle.ra_lint.proofs.JudgingLemmas.{IsRanged, joins_below, ranged_more, ranged_all}
use Rattle.ra_lint.proofs.judging.ranges_of.Goals as goal

pub range_of-range-requires-clause-joins : goal.range_of-range-requires-clause-joins
range_of-range-requires-clause-joins c =
    let nodes = c.args.pool.now in
    let number = c.loop-number.number in
    let node : node_at nodes number ≡ c.node.result = get_or_from_slice_get nodes number c.node.result
    (Const 0) c.node.ensures.node in
    let ranged = subst (λ rs. IsRanged nodes rs number) (sym c.deref.ensures.value) c.loop-number.invariant in
    subst (JoinsBelow (length c.deref.result.now)) node
    (joins_below nodes c.len-number-end.ensures.pool c.deref.result.now number
    (omega (arith, c.len-number-end.ensures.len)) ranged)

pub loop-number-preserved : goal.loop-number-preserved
loop-number-preserved c =
    let nodes = c.args.pool.now in
    let number = c.loop-number.number in
    let node : node_at nodes number ≡ c.node.result = get_or_from_slice_get nodes number c.node.result
    (Const 0) c.node.ensures.node in
    let range = c.range_of-range.ensures in
    let same : c.range_of-range.result ≡ node_range c.loop-number.ranges.items (node_at nodes number) =
    range.range ∙ (λ i. node_range (c.deref.ensures.value i) (sym node i)) in
    subst (λ rs. IsRanged nodes rs (number + 1)) (sym c.in_ok-push.ensures.items)
    (ranged_more nodes c.len-number-end.ensures.pool c.loop-number.ranges.items c.range_of-range.result number
    (omega (arith, c.len-number-end.ensures.len)) c.loop-number.invariant same range.ordered)

pub returns : goal.returns
returns c =
    let nodes = c.args.pool.now in
    let all : c.loop-number.number ≡ length nodes = omega (arith, c.len-number-end.ensures.len) in
    ranged_all nodes c.len-number-end.ensures.pool c.loop-number.ranges.items
    (subst (IsRanged nodes c.loop-number.ranges.items) all c.loop-number.invariant)
