use Rattle.std.proofs.Common.{subst}
use Rattle.ra_indirect.specs.declared.node.Node.TheVariants.{Cell as CellNode}
use Rattle.ra_indirect.specs.Pools.{IsCellOf, node_at}
use Rattle.ra_indirect.specs.Growing.{GainsNode}
use Rattle.ra_chain.proofs.PlantLemmas.{gains_cell, plants_view}
use Rattle.ra_chain.proofs.nodes.view_node.Goals as goal

pub node_of-requires-2-clause-follows : goal.node_of-requires-2-clause-follows
node_of-requires-2-clause-follows c =
    let gains = c.in_ok-cell.ensures.ok in (
      gains.within,
      subst (λ w. IsCellOf w (node_at c.node_of.new.pool c.in_ok-cell.cell)) c.width.ensures
          (gains_cell c.args.pool.now c.node_of.new.pool c.args.pointer c.args.address c.width.result
          c.in_ok-cell.cell c.in_ok-cell.ensures.kept.pool gains),
    )

pub returns-clause-ok : goal.returns-clause-ok
returns-clause-ok c =
    let gains = subst (λ w. GainsNode c.args.pool.now c.node_of.new.pool (CellNode w
    c.args.pointer c.args.address) c.in_ok-cell.cell) c.width.ensures c.in_ok-cell.ensures.ok in
    (λ p spells. plants_view c.args.pool.now c.node_of.new.pool c.node_of-2.new.pool
    c.requires.room.pool c.in_ok-cell.ensures.kept.pool c.in_ok-view.ensures.kept.pool c.args.kind
    c.args.size c.args.pointer c.args.address c.in_ok-cell.cell c.in_ok-view.view p spells gains
    c.in_ok-view.ensures.ok)
