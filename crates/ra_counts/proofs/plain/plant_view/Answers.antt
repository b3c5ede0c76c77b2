use Rattle.std.proofs.Common.{arith, subst, sym}
use Rattle.ra_indirect.specs.declared.node.Node.TheVariants.{Cell as CellNode, View}
use Rattle.ra_indirect.specs.Trees.{constant, cell_of}
use Rattle.ra_indirect.specs.Pools.{IsCellOf, IsWidth, node_at}
use Rattle.ra_indirect.specs.Growing.{GainsNode}
use Rattle.ra_indirect.proofs.GrowingLemmas.{gains}
use Rattle.ra_chain.proofs.PlantLemmas.{spells_named, gains_cell, kept_node, kept_through, kept_none, plants_view}
use Rattle.ra_counts.proofs.PlainLemmas.{cell_alone, untracked, width_fits}
use Rattle.ra_counts.proofs.plain.plant_view.Goals as goal

pub intern-requires-clause-follows : goal.intern-requires-clause-follows
intern-requires-clause-follows c =
    let names = spells_named c.args.pool.now c.args.zero (constant 0) c.requires.pool c.requires.zero in
    (names.0, names.1, subst IsWidth (sym c.width.ensures) (width_fits c.args.size))

pub intern-requires-in-Prior-clause-follows : goal.intern-requires-in-Prior-clause-follows
intern-requires-in-Prior-clause-follows c =
    let old = c.args.pool.now in
    let mid = c.intern.new.self in
    let e = c.in_ok-cell.ensures in
    let node = CellNode c.width.result c.args.zero c.args.address in
    let gain : GainsNode old mid node c.in_ok-cell.cell =
    gains old mid node c.in_ok-cell.cell c.requires.pool e.pool e.ok in
    let width = gains_cell old mid c.args.zero c.args.address c.width.result c.in_ok-cell.cell e.pool gain in
    (gain.within, subst (λ w. IsCellOf w (node_at mid c.in_ok-cell.cell)) c.width.ensures width)

pub returns-in_ok-_view-in-Prior-clause-grows : goal.returns-in_ok-_view-in-Prior-clause-grows
returns-in_ok-_view-in-Prior-clause-grows c =
    let old = c.args.pool.now in
    let mid = c.intern.new.self in
    let new = c.intern-in-Prior.new.self in
    let e = c.in_ok-cell.ensures in
    let f = c.in_ok-_view-in-Prior.ensures in
    let cell = c.in_ok-cell.cell in
    let seen = c.in_ok-_view-in-Prior._view in
    let node = CellNode c.width.result c.args.zero c.args.address in
    let first = gains old mid node cell c.requires.pool e.pool e.ok in
    let wide = subst (λ w. GainsNode old mid (CellNode w c.args.zero c.args.address) cell) c.width.ensures first in
    let second = gains mid new (View c.args.kind c.args.size cell) seen e.pool f.pool f.ok in
    let plants = plants_view old mid new c.requires.pool e.pool f.pool c.args.kind c.args.size c.args.zero
    c.args.address
    cell seen (constant 0) c.requires.zero wide second in
    plants.grows

pub returns-in_ok-_view-in-Prior-clause-kept : goal.returns-in_ok-_view-in-Prior-clause-kept
returns-in_ok-_view-in-Prior-clause-kept c =
    let old = c.args.pool.now in
    let mid = c.intern.new.self in
    let new = c.intern-in-Prior.new.self in
    let e = c.in_ok-cell.ensures in
    let f = c.in_ok-_view-in-Prior.ensures in
    let cell = c.in_ok-cell.cell in
    let seen = c.in_ok-_view-in-Prior._view in
    let node = CellNode c.width.result c.args.zero c.args.address in
    let look = View c.args.kind c.args.size cell in
    let first = kept_node old mid node cell e.pool (gains old mid node cell c.requires.pool e.pool e.ok) e.ok in
    let second = kept_node mid new look seen f.pool (gains mid new look seen e.pool f.pool f.ok) f.ok in
    kept_through old mid new 1 1 0 1 0 1 2 1 1 (omega arith) (omega arith) (omega arith) first second

pub returns-in_default : goal.returns-in_default
returns-in_default c =
    let old = c.args.pool.now in
    let mid = c.intern.new.self in
    let e = c.in_ok-cell.ensures in
    let cell = c.in_ok-cell.cell in
    let node = CellNode c.width.result c.args.zero c.args.address in
    let first = gains old mid node cell c.requires.pool e.pool e.ok in
    let wide = subst (λ w. GainsNode old mid (CellNode w c.args.zero c.args.address) cell) c.width.ensures first in
    let none = untracked c.args.kind c.args.size (cell_of c.args.size (constant 0) c.args.address)
    c.in_default.not-Prior in
    let more = kept_none mid 1 0 1 e.pool in
    record {
      grows = cell_alone old mid c.requires.pool e.pool c.args.kind c.args.size c.args.address c.args.zero cell
          c.requires.zero wide none;
      kept = kept_through old mid mid 1 1 0 1 0 1 2 1 1 (omega arith) (omega arith) (omega arith)
          (kept_node old mid node cell e.pool first e.ok) more;
    }
