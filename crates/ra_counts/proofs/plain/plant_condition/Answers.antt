use Rattle.ra_indirect.specs.Trees.{constant}
use Rattle.ra_chain.proofs.PlantLemmas.{spells_more}
use Rattle.ra_counts.proofs.plain.plant_condition.Goals as goal

pub plant_operand-requires-2-clause-zero : goal.plant_operand-requires-2-clause-zero
plant_operand-requires-2-clause-zero c =
    let front = c.in_ok-plant_operand.ensures.kept.front in
    spells_more c.args.pool.now c.plant_operand.new.pool c.args.zero (constant 0) front c.requires.zero
