use Rattle.std.proofs.Common.{[], ◌∷◌, subst, sym}
use Rattle.ra_chain.specs.Elaboration.{operand_tree}
use Rattle.ra_chain.specs.Planting.{Plants}
use Rattle.ra_chain.proofs.PlantLemmas.{plants_again, plants_after}
use Rattle.ra_chain.proofs.nodes.operand_node.Goals as goal

pub returns-in_ok-number-in-Recall-clause-ok : goal.returns-in_ok-number-in-Recall-clause-ok
returns-in_ok-number-in-Recall-clause-ok c =
    λ p r pointed recalled. subst (λ o. Plants c.args.pool.now c.number_or_zero.new.pool
    (operand_tree o p r ∷ []) (operand_tree o p r) c.in_ok-number-in-Recall.number)
    (sym c.in-Recall.is)
    (plants_again c.args.pool.now c.number_or_zero.new.pool r c.in_ok-number-in-Recall.number
    (c.in_ok-number-in-Recall.ensures.ok r recalled))

pub returns-in_ok-view-in-Cell-clause-ok : goal.returns-in_ok-view-in-Cell-clause-ok
returns-in_ok-view-in-Cell-clause-ok c =
    λ p r pointed recalled. (
    let first = c.in_ok-pointer-in-Cell.ensures.ok p pointed in
    subst (λ o. Plants c.args.pool.now c.view_node.new.pool (operand_tree o p r ∷ [])
    (operand_tree o p r) c.in_ok-view-in-Cell.view) (sym c.in-Cell.is)
    (plants_after c.args.pool.now c.number_or_zero-in-Cell.new.pool c.view_node.new.pool _ _
    c.in_ok-view-in-Cell.view first.grows (c.in_ok-view-in-Cell.ensures.ok p first.spells)))
