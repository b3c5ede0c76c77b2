use Rattle.ra_chain.proofs.PlantLemmas.{plants_constant}
use Rattle.ra_chain.proofs.nodes.constant_node.Goals as goal

pub returns-clause-ok : goal.returns-clause-ok
returns-clause-ok c =
    plants_constant c.args.pool.now c.node_of.new.pool c.requires.room.pool
    c.in_ok-number.ensures.kept.pool c.args.value c.in_ok-number.number c.in_ok-number.ensures.ok
