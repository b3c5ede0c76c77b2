use Rattle.std.proofs.Common.{rules, arith, ◌≡◌, ◌≢◌, ◌-◌, ℕ, true, false, ap, sym, subst, ◌∙◌, Some}
use Rattle.std.proofs.lemmas.List.{get_or_default}
use Rattle.std.proofs.lemmas.Option.{slice_get-get_or}
use Rattle.ra_indirect.specs.declared.node.Node.{Node}
use Rattle.ra_indirect.specs.contracts.node.NodePartialEq.TheImpl.{ghosts}
use Rattle.ra_indirect.specs.Pools.{node_at}
use Rattle.ra_indirect.proofs.BucketLemmas.{IsLeft, IsLeft-next}
use Rattle.ra_indirect.proofs.buckets.Buckets.find.Goals as goal

same : (a b : Node) → ghosts.eq a b ≡ true → a ≡ b
same a b equal = search rules

itself : (a : Node) → ghosts.eq a a ≡ true
itself a = search rules

pub returns-then-eq-clause-found : goal.returns-then-eq-clause-found
returns-then-eq-clause-found c =
    let left = c.loop-place.invariant in
    slice_get-get_or c.args.nodes.now (c.loop-place.place - 1) _ (omega (arith, left.within))
    ∙ ap Some (same _ _ (sym c.eq.ensures ∙ c.if-eq.true))

pub loop-place-preserved : goal.loop-place-preserved
loop-place-preserved c =
    let nodes = c.args.nodes.now in
    let earlier = c.args.self.now.earlier.items in
    let number : ℕ = c.loop-place.place - 1 in
    let left = c.loop-place.invariant in
    let other : node_at nodes number ≢ c.args.node = λ is.
    let equal : true ≡ false =
    sym (ap (λ n. ghosts.eq n c.args.node) is ∙ itself c.args.node) ∙ sym c.eq.ensures ∙ c.if-eq.false in
    absurd (cc) in
    let half = c.args.self.now.half in
    let filed = c.requires.filed in
    let passed = IsLeft-next half nodes c.args.self.now.latest.items earlier filed c.args.node c.loop-place.place number
    (omega (arith, c.loop-place-test.true)) other left in
    subst (IsLeft half nodes c.args.node)
    (sym (c.index-place-in-loop-place.ensures
    ∙ get_or_default earlier number _ 0 (omega (arith, left.within, filed.fits))))
    passed
