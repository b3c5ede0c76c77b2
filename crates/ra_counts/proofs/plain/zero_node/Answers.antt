use Rattle.std.proofs.Common.{[], ◌∷◌, refl}
use Rattle.ra_indirect.specs.declared.node.Node.TheVariants.{Const}
use Rattle.ra_indirect.specs.Trees.{constant}
use Rattle.ra_indirect.proofs.GrowingLemmas.{gains}
use Rattle.ra_chain.proofs.PlantLemmas.{plants_constant, grows_as, kept_node}
use Rattle.ra_counts.proofs.plain.zero_node.Goals as goal

pub returns-clause-zero : goal.returns-clause-zero
returns-clause-zero c =
    let old = c.args.pool.now in
    let new = c.intern.new.self in
    let e = c.in_ok-zero.ensures in
    let gain = gains old new (Const 0) c.in_ok-zero.zero c.len.ensures.pool e.pool e.ok in
    (plants_constant old new c.len.ensures.pool e.pool 0 c.in_ok-zero.zero gain).spells

pub returns-clause-grows : goal.returns-clause-grows
returns-clause-grows c =
    let old = c.args.pool.now in
    let new = c.intern.new.self in
    let e = c.in_ok-zero.ensures in
    let gain = gains old new (Const 0) c.in_ok-zero.zero c.len.ensures.pool e.pool e.ok in
    let plants = plants_constant old new c.len.ensures.pool e.pool 0 c.in_ok-zero.zero gain in
    grows_as old new (constant 0 ∷ []) [] refl refl plants.grows

pub returns-clause-kept : goal.returns-clause-kept
returns-clause-kept c =
    let old = c.args.pool.now in
    let new = c.intern.new.self in
    let e = c.in_ok-zero.ensures in
    let gain = gains old new (Const 0) c.in_ok-zero.zero c.len.ensures.pool e.pool e.ok in
    kept_node old new (Const 0) c.in_ok-zero.zero e.pool gain e.ok
