use Rattle.ra_indirect.proofs.GrowingLemmas.{gains}
use Rattle.ra_chain.proofs.PlantLemmas.{kept_node, gains_named}
use Rattle.ra_chain.proofs.nodes.node_of.Goals as goal

pub returns-clause-ok : goal.returns-clause-ok
returns-clause-ok c =
    gains c.args.pool.now c.intern.new.self c.args.node c.in_ok-number.number c.requires.room.pool
    c.in_ok-number.ensures.pool c.in_ok-number.ensures.ok

pub returns-clause-kept : goal.returns-clause-kept
returns-clause-kept c =
    kept_node c.args.pool.now c.intern.new.self c.args.node c.in_ok-number.number
    c.in_ok-number.ensures.pool (gains c.args.pool.now c.intern.new.self c.args.node
    c.in_ok-number.number c.requires.room.pool c.in_ok-number.ensures.pool
    c.in_ok-number.ensures.ok) c.in_ok-number.ensures.ok

pub returns-clause-named : goal.returns-clause-named
returns-clause-named c =
    gains_named c.args.pool.now c.intern.new.self c.args.node c.in_ok-number.number
    c.in_ok-number.ensures.pool (gains c.args.pool.now c.intern.new.self c.args.node
    c.in_ok-number.number c.requires.room.pool c.in_ok-number.ensures.pool
    c.in_ok-number.ensures.ok)
