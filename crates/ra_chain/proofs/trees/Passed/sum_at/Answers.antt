use Rattle.std.proofs.Common.{◌≡◌, ◌-◌, suc, arith, ap}
use Rattle.std.proofs.lemmas.List.{get_or_default, get_or_read}
use Rattle.ra_chain.proofs.TakeLemmas.{named_value, named_carried_sum, sum_taken}
use Rattle.ra_chain.proofs.trees.Passed.sum_at.Goals as goal

pub sum_node-requires-clause-sum : goal.sum_node-requires-clause-sum
sum_node-requires-clause-sum c =
    let next : suc (c.args.place - 1) ≡ c.args.place = omega arith in
    named_carried_sum c.args.conditions.now c.args.place (c.args.place - 1) next _
    (ap (λ x. x.flag)
    (get_or_default c.args.conditions.now (c.args.place - 1) _ _
    (omega arith))) c.args.pool.now c.requires.room.pool c.args.self.now c.requires.known
    c.index.result.now
    (get_or_read c.args.self.now.lefts.items (c.args.place - 1) c.index.result.now
    (omega (arith, c.requires.sized.lefts_too)) c.index.ensures 0)

pub sum_node-requires-clause-value : goal.sum_node-requires-clause-value
sum_node-requires-clause-value c =
    let next : suc (c.args.place - 1) ≡ c.args.place = omega arith in
    named_value c.args.conditions.now c.args.place (c.args.place - 1) next _
    (ap (λ x. x.flag)
    (get_or_default c.args.conditions.now (c.args.place - 1) _ _
    (omega arith))) c.args.pool.now c.requires.room.pool c.args.self.now c.requires.known
    c.index.result.now
    (get_or_read c.args.self.now.lefts.items (c.args.place - 1) c.index.result.now
    (omega (arith, c.requires.sized.lefts_too)) c.index.ensures 0)

pub returns-clause-ok : goal.returns-clause-ok
returns-clause-ok c =
    let next : suc (c.args.place - 1) ≡ c.args.place = omega arith in
    sum_taken c.args.conditions.now c.args.place (c.args.place - 1) next _
    (ap (λ x. x.flag)
    (get_or_default c.args.conditions.now (c.args.place - 1) _ _
    (omega arith))) c.args.pool.now c.requires.room.pool c.args.self.now c.requires.known
    c.index.result.now
    (get_or_read c.args.self.now.lefts.items (c.args.place - 1) c.index.result.now
    (omega (arith, c.requires.sized.lefts_too)) c.index.ensures 0)
    c.sum_node.new.pool c.in_ok-sum.sum c.in_ok-sum.ensures.ok
