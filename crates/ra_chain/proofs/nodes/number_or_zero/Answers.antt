use Rattle.std.proofs.Common.{subst}
use Rattle.ra_indirect.specs.Trees.{constant}
use Rattle.ra_chain.specs.Planting.{SpellsOrZero}
use Rattle.ra_chain.proofs.PlantLemmas.{grows_none, spells_named}
use Rattle.ra_chain.proofs.nodes.number_or_zero.Goals as goal

pub returns-in-Some-clause-ok : goal.returns-in-Some-clause-ok
returns-in-Some-clause-ok c =
    λ tree spells. record {
      grows = grows_none c.args.pool.now c.requires.room.pool;
      spells = subst (λ o. SpellsOrZero c.args.pool.now o tree) c.in-Some.is spells;
    }

pub returns-in_ok-zero-in-None-clause-named : goal.returns-in_ok-zero-in-None-clause-named
returns-in_ok-zero-in-None-clause-named c =
    let e = c.in_ok-zero-in-None.ensures in
    spells_named c.constant_node.new.pool c.in_ok-zero-in-None.zero (constant 0) e.kept.pool e.ok.spells
