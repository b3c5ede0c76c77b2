use Rattle.std.proofs.Common.{◌≡◌, true, false, if◌then◌else◌, subst, sym, ◌∙◌}
use Rattle.ra_condition.specs.Flags.{hands_on}
use Rattle.ra_chain.specs.Elaboration.{operand_tree, joined, handed_on, added}
use Rattle.ra_chain.specs.Sides.{PlantsSides}
use Rattle.ra_chain.proofs.SideLemmas.{or_zero_more, both_sides, two_sides}
use Rattle.ra_chain.proofs.sides.sides_node.Goals as goal

pub returns-in_ok-value-clause-ok : goal.returns-in_ok-value-clause-ok
returns-in_ok-value-clause-ok c =
    λ base s l p r sum left pointed recalled grew. (
    let t = operand_tree c.args.condition.now.right p r in
    let v = handed_on c.args.condition.now.flag s (joined c.args.condition.now.op l t) in
    let holds : hands_on c.args.condition.now.flag ≡ true = sym c.hands_on.ensures ∙ c.if-hands_on.true in
    subst (λ b. PlantsSides base c.value_node.new.pool (if b then v else added s l)
    (if b then v else t) c.in_ok-value.value c.in_ok-value.value) (sym holds)
    (both_sides base c.value_node.new.pool v c.in_ok-value.value
    (c.in_ok-value.ensures.ok base s l p r sum left pointed recalled grew)))

pub returns-in_ok-right-clause-ok : goal.returns-in_ok-right-clause-ok
returns-in_ok-right-clause-ok c =
    λ base s l p r sum left pointed recalled grew. (
    let t = operand_tree c.args.condition.now.right p r in
    let v = handed_on c.args.condition.now.flag s (joined c.args.condition.now.op l t) in
    let holds : hands_on c.args.condition.now.flag ≡ false = sym c.hands_on.ensures ∙ c.if-hands_on.false in
    let e = c.in_ok-left.ensures in
    let right = c.in_ok-right.ensures.ok p r (or_zero_more c.args.pool.now c.added_node.new.pool
    c.args.named.pointer p e.kept.front pointed) (or_zero_more c.args.pool.now c.added_node.new.pool
    c.args.named.recalled r e.kept.front recalled) in
    subst (λ b. PlantsSides base c.operand_node.new.pool (if b then v else added s l)
    (if b then v else t) c.in_ok-left.left c.in_ok-right.right) (sym holds)
    (two_sides base c.args.pool.now c.added_node.new.pool c.operand_node.new.pool s l t
    c.in_ok-left.left c.in_ok-right.right grew.with_sum (e.ok s l sum left) right))
