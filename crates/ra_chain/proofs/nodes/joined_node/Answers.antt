use Rattle.ra_chain.proofs.PlantLemmas.{plants_join}
use Rattle.ra_chain.proofs.nodes.joined_node.Goals as goal

pub returns-clause-ok : goal.returns-clause-ok
returns-clause-ok c =
    λ s t lefts rights. plants_join c.args.pool.now c.node_of.new.pool c.requires.room.pool
    c.in_ok-joined.ensures.kept.pool c.args.op c.args.left c.args.right c.in_ok-joined.joined s t
    lefts rights c.in_ok-joined.ensures.ok
