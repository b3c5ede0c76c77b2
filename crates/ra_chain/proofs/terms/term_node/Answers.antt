use Rattle.std.proofs.Common.{[], ◌∷◌, refl, subst, sym}
use Rattle.ra_operand.specs.declared.op.Op.TheVariants.{Mul}
use Rattle.ra_indirect.specs.Trees.{constant}
use Rattle.ra_chain.specs.Elaboration.{operand_tree, times}
use Rattle.ra_chain.specs.Planting.{Plants}
use Rattle.ra_chain.proofs.PlantLemmas.{spells_more}
use Rattle.ra_chain.proofs.SideLemmas.{grows_joined}
use Rattle.ra_chain.proofs.terms.term_node.Goals as goal

pub returns-in_ok-product-in-Some-clause-ok : goal.returns-in_ok-product-in-Some-clause-ok
returns-in_ok-product-in-Some-clause-ok c =
    let l = operand_tree c.args.term.operand (constant 0) (constant 0) in
    let t = operand_tree c.in-Some.factor (constant 0) (constant 0) in
    let first = c.in_ok-operand.ensures.ok (constant 0) (constant 0) refl refl in
    let factor = c.in_ok-factor-in-Some.ensures in
    let second = factor.ok (constant 0) (constant 0) refl refl in
    let third = c.in_ok-product-in-Some.ensures.ok l t
    (spells_more c.operand_node.new.pool c.operand_node-in-Some.new.pool c.in_ok-operand.operand l
    factor.kept.front first.spells) second.spells in
    subst (λ f. Plants c.args.pool.now c.joined_node.new.pool (times (operand_tree
    c.args.term.operand (constant 0) (constant 0)) f ∷ []) (times (operand_tree c.args.term.operand
    (constant 0) (constant 0)) f) c.in_ok-product-in-Some.product) (sym c.in-Some.is)
    (record {
      grows = grows_joined c.args.pool.now c.operand_node.new.pool c.operand_node-in-Some.new.pool
          c.joined_node.new.pool Mul [] l t first.grows second.grows third.grows;
      spells = third.spells;
    })
