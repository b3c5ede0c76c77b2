use Rattle.std.proofs.Common.{[], ◌∷◌, ◌++◌, arith, subst, sym, IsTrue}
use Rattle.ra_operand.specs.Operators.{is_arithmetic}
use Rattle.ra_chain.specs.Elaboration.{operand_tree}
use Rattle.ra_chain.specs.Planting.{Plants}
use Rattle.ra_chain.proofs.PlantLemmas.{names_more, spells_more}
use Rattle.ra_chain.proofs.SideLemmas.{arithmetic_from, joined_is, grows_joined}
use Rattle.ra_chain.proofs.sides.with_right.Goals as goal

pub joined_node-requires : goal.joined_node-requires
joined_node-requires c =
    let e = c.in_ok-right-in_default.ensures in
    record {
      room = record { pool = e.kept.pool; room = omega (arith, e.kept.adds.nodes_too, c.requires.room.room) };
      arithmetic = arithmetic_from c.args.condition.now.op c.in_default.not-Bare c.requires.joins;
      left = names_more c.args.pool.now c.operand_node.new.pool c.args.left e.kept.front c.requires.left;
      right = e.named;
    }

pub returns-in_ok-number-in_default-clause-ok : goal.returns-in_ok-number-in_default-clause-ok
returns-in_ok-number-in_default-clause-ok c =
    λ base trees l p r left pointed recalled grew. (
    let e = c.in_ok-right-in_default.ensures in
    let op = c.args.condition.now.op in
    let t = operand_tree c.args.condition.now.right p r in
    let arithmetic : IsTrue (is_arithmetic c.args.condition.now.op) =
    arithmetic_from c.args.condition.now.op c.in_default.not-Bare c.requires.joins in
    let first = e.ok p r pointed recalled in
    let second = c.in_ok-number-in_default.ensures.ok l t (spells_more c.args.pool.now
    c.operand_node.new.pool c.args.left l e.kept.front left) first.spells in
    subst (λ x. Plants base c.joined_node.new.pool
    (trees ++ x ∷ []) x c.in_ok-number-in_default.number) (sym (joined_is op l t arithmetic))
    (record {
      grows = grows_joined base c.args.pool.now c.operand_node.new.pool c.joined_node.new.pool op
          trees l t grew first.grows second.grows;
      spells = second.spells;
    }))
