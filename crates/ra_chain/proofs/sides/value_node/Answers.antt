use Rattle.std.proofs.Common.{[], ◌∷◌, subst, sym}
use Rattle.ra_chain.specs.Elaboration.{operand_tree, joined, handed_on}
use Rattle.ra_chain.specs.Planting.{Plants}
use Rattle.ra_chain.specs.Sides.{sum_trees}
use Rattle.ra_chain.proofs.SideLemmas.{sum_more, handed_alone, grows_added}
use Rattle.ra_chain.proofs.sides.value_node.Goals as goal

pub returns-in_ok-value-in-Remember-clause-ok : goal.returns-in_ok-value-in-Remember-clause-ok
returns-in_ok-value-in-Remember-clause-ok c =
    λ base s l p r sum left pointed recalled grew. (
    let e = c.in_ok-value.ensures in
    let v = joined c.args.condition.now.op l (operand_tree c.args.condition.now.right p r) in
    let first = e.ok base (sum_trees s) l p r left pointed recalled grew.with_sum in
    let second = c.in_ok-value-in-Remember.ensures.ok s v
    (sum_more c.args.pool.now c.with_right.new.pool c.args.sum s e.kept.front sum) first.spells in
    subst (λ flag. Plants base c.added_node.new.pool (handed_on flag s v ∷ [])
    (handed_on flag s v) c.in_ok-value-in-Remember.value) (sym c.in-Remember.is)
    (record {
      grows = grows_added base c.with_right.new.pool c.added_node.new.pool s v first.grows second.grows;
      spells = second.spells;
    }))

pub returns-in_default-clause-ok : goal.returns-in_default-clause-ok
returns-in_default-clause-ok c =
    λ base s l p r sum left pointed recalled grew. (
    let v = joined c.args.condition.now.op l (operand_tree c.args.condition.now.right p r) in
    subst (λ x. Plants base c.with_right.new.pool (x ∷ []) x c.in_ok-value.value)
    (sym (handed_alone c.args.condition.now.flag s v c.requires.hands_on c.in_default.not-Remember))
    (c.in_ok-value.ensures.ok base [] l p r left pointed recalled grew.alone))
