use Rattle.std.proofs.Common.{subst}
use Rattle.ra_indirect.specs.Trees.{constant}
use Rattle.ra_chain.specs.Planting.{SpellsSum}
use Rattle.ra_chain.proofs.PlantLemmas.{spells_named, spells_more, plants_subtracted}
use Rattle.ra_chain.proofs.nodes.subtracted_node.Goals as goal

pub joined_node-requires-in-None-clause-left : goal.joined_node-requires-in-None-clause-left
joined_node-requires-in-None-clause-left c =
    let e = c.in_ok-zero-in-None.ensures in
    spells_named c.constant_node.new.pool c.in_ok-zero-in-None.zero (constant 0) e.kept.pool e.ok.spells

pub returns-in_ok-number-in-None-clause-ok : goal.returns-in_ok-number-in-None-clause-ok
returns-in_ok-number-in-None-clause-ok c =
    λ s v sum value. (
    let first = c.in_ok-zero-in-None.ensures in
    plants_subtracted c.args.pool.now c.constant_node.new.pool c.joined_node-in-None.new.pool
    c.in_ok-zero-in-None.zero c.in_ok-number-in-None.number v s
    (subst (λ o. SpellsSum c.args.pool.now o s) c.in-None.is sum) first.ok
    (c.in_ok-number-in-None.ensures.ok (constant 0) v first.ok.spells
    (spells_more c.args.pool.now c.constant_node.new.pool c.args.value v first.kept.front value)))
