use Rattle.std.proofs.Common.{◌≡◌, ◌+◌, ◌++◌, ◌∷◌, [], ◌∙◌, sym, subst, arith, slice_index, slice_set}
use Rattle.std.proofs.lemmas.List.{get_or_default}
use Rattle.ra_indirect.specs.Buckets.{AreChained}
use Rattle.ra_indirect.proofs.BucketLemmas.{AreChained-put}
use Rattle.ra_indirect.proofs.buckets.Buckets.put.Goals as goal

pub returns-clause-filed : goal.returns-clause-filed
returns-clause-filed c = λ nodes node number bucket filed.
    let half = c.args.self.now.half in
    let latest = c.args.self.now.latest.items in
    let earlier = c.args.self.now.earlier.items in
    let more = nodes ++ node ∷ [] in
    let head : c.index.result.now ≡ slice_index latest c.args.bucket =
    c.index.ensures ∙ get_or_default latest c.args.bucket _ 0 (omega (arith, filed.as_many)) in
    let put = AreChained-put half nodes latest earlier filed node c.args.bucket bucket c.requires.within
    (omega arith) in
    subst
    (λ place. AreChained half more (slice_set latest c.args.bucket (c.args.number + 1))
    (slice_set earlier c.args.number place))
    (sym head)
    (subst
    (λ n. AreChained half more (slice_set latest c.args.bucket (n + 1))
    (slice_set earlier n (slice_index latest c.args.bucket)))
    (sym number) put)
