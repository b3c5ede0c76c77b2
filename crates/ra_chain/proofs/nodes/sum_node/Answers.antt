use Rattle.std.proofs.Common.{Some, subst, sym}
use Rattle.ra_chain.specs.Elaboration.{sum_after}
use Rattle.ra_chain.specs.Planting.{IsCarried, PlantsSum}
use Rattle.ra_chain.proofs.nodes.sum_node.Goals as goal

pub returns-in_ok-number-in-AddSource-clause-ok : goal.returns-in_ok-number-in-AddSource-clause-ok
returns-in_ok-number-in-AddSource-clause-ok c =
    λ v s value sum. (
    let carried : IsCarried c.args.flag = subst IsCarried (sym c.in-AddSource.is) tt in
    let plants = c.in_ok-number-in-AddSource.ensures.ok s v (sum carried) (value carried) in
    subst (λ flag. PlantsSum c.args.pool.now c.added_node.new.pool (sum_after flag v s)
    (Some c.in_ok-number-in-AddSource.number)) (sym c.in-AddSource.is)
    (record { grows = plants.grows; spells = plants.spells }))

pub returns-in_ok-number-in-SubSource-clause-ok : goal.returns-in_ok-number-in-SubSource-clause-ok
returns-in_ok-number-in-SubSource-clause-ok c =
    λ v s value sum. (
    let carried : IsCarried c.args.flag = subst IsCarried (sym c.in-SubSource.is) tt in
    let plants = c.in_ok-number-in-SubSource.ensures.ok s v (sum carried) (value carried) in
    subst (λ flag. PlantsSum c.args.pool.now c.subtracted_node.new.pool (sum_after flag v s)
    (Some c.in_ok-number-in-SubSource.number)) (sym c.in-SubSource.is)
    (record { grows = plants.grows; spells = plants.spells }))
