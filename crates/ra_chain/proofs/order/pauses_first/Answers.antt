use Rattle.std.proofs.Common.{true, false, ◌++◌, length, get_or, ap, ◌∙◌, arith}
use Rattle.std.specs.Bool.{beq}
use Rattle.std.proofs.lemmas.List.FromFn.{length-map-range_with_len}
use Rattle.ra_condition.specs.Chains.{in_pause_chain}
use Rattle.ra_condition.proofs.Passes.{chosen}
use Rattle.ra_chain.proofs.Marks.{chosen_marked, chosen_unmarked}
use Rattle.ra_chain.proofs.order.pauses_first.Goals as goal

pub push_places-requires : goal.push_places-requires
push_places-requires c =
    let marks = ap length (c.deref.ensures.value ∙ c.in_ok-pausing.ensures) in
    omega (arith, length-map-range_with_len (in_pause_chain c.args.conditions.now) 0 (length c.args.conditions.now))

pub push_places-requires-2 : goal.push_places-requires-2
push_places-requires-2 c =
    let marks = ap length (c.deref-2.ensures.value ∙ c.in_ok-pausing.ensures) in
    omega (arith, length-map-range_with_len (in_pause_chain c.args.conditions.now) 0 (length c.args.conditions.now))

pub returns : goal.returns
returns c =
    let cs = c.args.conditions.now in
    let pauses = chosen_marked cs c.deref.result.now (c.deref.ensures.value ∙ c.in_ok-pausing.ensures) in
    let others = chosen_unmarked cs c.deref-2.result.now (c.deref-2.ensures.value ∙ c.in_ok-pausing.ensures) in
    c.in_ok-push_places-2.ensures
    ∙ ap (λ xs. xs ++ chosen (λ j. beq (get_or c.deref-2.result.now j false) false)
    (length c.deref-2.result.now)) (c.in_ok-push_places.ensures
    ∙ ap (λ xs. xs ++ chosen (λ j. beq (get_or c.deref.result.now j false) true)
    (length c.deref.result.now)) c.new-order.ensures.items ∙ pauses)
    ∙ ap (λ xs. chosen (in_pause_chain cs) (length cs) ++ xs) others
