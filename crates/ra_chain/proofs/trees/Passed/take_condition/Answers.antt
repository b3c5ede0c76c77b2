use Rattle.std.proofs.Common.{if◌then◌else◌, get_or, set, ap, ap₂, subst, sym, ◌∙◌, arith, get_or-set_same}
use Rattle.std.proofs.Common.{get_or-set_other, Some}
use Rattle.std.proofs.lemmas.List.{get_or_default}
use Rattle.ra_condition.specs.Flags.{is_remember}
use Rattle.ra_condition.specs.Contents.{no_condition}
use Rattle.ra_chain.specs.Elaboration.{left_of, right_of}
use Rattle.ra_chain.specs.Sides.{PlantsSides}
use Rattle.ra_chain.proofs.PlantLemmas.{front_through}
use Rattle.ra_chain.proofs.SideLemmas.{sum_more}
use Rattle.ra_chain.proofs.TakeLemmas.{named_sum, named_or_zero, named_more, sides_taken}
use Rattle.ra_chain.proofs.trees.Passed.take_condition.Goals as goal

pub operand_node-requires-clause-pointer : goal.operand_node-requires-clause-pointer
operand_node-requires-clause-pointer c =
    named_more c.args.pool.now c.sum_at.new.pool c.pointer_at.result c.in_ok-sum.ensures.kept.front
    (named_or_zero c.args.pool.now c.pointer_at.result _ c.requires.room.pool
    (c.pointer_at.ensures c.args.pool.now c.requires.known))

pub operand_node-requires-clause-recalled : goal.operand_node-requires-clause-recalled
operand_node-requires-clause-recalled c =
    named_more c.args.pool.now c.sum_at.new.pool c.args.self.now.recalled c.in_ok-sum.ensures.kept.front
    (named_or_zero c.args.pool.now c.args.self.now.recalled _ c.requires.room.pool c.requires.known.recalled)

pub sides_node-requires-clause-sum : goal.sides_node-requires-clause-sum
sides_node-requires-clause-sum c =
    named_more c.sum_at.new.pool c.operand_node.new.pool c.in_ok-sum.sum c.in_ok-left.ensures.kept.front
    (named_sum c.sum_at.new.pool c.in_ok-sum.sum _ c.in_ok-sum.ensures.kept.pool c.in_ok-sum.ensures.ok.spells)

pub sides_node-requires-clause-named : goal.sides_node-requires-clause-named
sides_node-requires-clause-named c =
    let front = front_through c.args.pool.now c.sum_at.new.pool c.operand_node.new.pool
    c.in_ok-sum.ensures.kept.front c.in_ok-left.ensures.kept.front in
    record {
      pointer = named_more c.args.pool.now c.operand_node.new.pool c.pointer_at.result front
          (named_or_zero c.args.pool.now c.pointer_at.result _ c.requires.room.pool
          (c.pointer_at.ensures c.args.pool.now c.requires.known));
      recalled = named_more c.args.pool.now c.operand_node.new.pool c.args.self.now.recalled front
          (named_or_zero c.args.pool.now c.args.self.now.recalled _ c.requires.room.pool c.requires.known.recalled);
    }

pub returns-clause-ok : goal.returns-clause-ok
returns-clause-ok c =
    let sums = c.in_ok-sum.ensures in
    let lefts = c.in_ok-left.ensures in
    let sides = c.in_ok-left-2.ensures in
    let cs = c.args.conditions.now in
    let j = c.args.place in
    let old = c.args.self.now in
    let same = get_or_default c.args.conditions.now c.args.place _ no_condition c.requires.within in
    let left_here = get_or-set_same c.args.self.now.lefts.items c.args.place c.in_ok-left-2.left 0
    (omega (arith, c.requires.within, c.requires.sized.lefts_too)) in
    let right_here = get_or-set_same c.args.self.now.rights.items c.args.place c.in_ok-left-2.right 0
    (omega (arith, c.requires.within, c.requires.sized.rights_too)) in
    let taken = sides_taken cs j c.requires.within _ same c.args.pool.now c.sum_at.new.pool c.operand_node.new.pool
    c.sides_node.new.pool c.pointer_at.result old.recalled c.in_ok-sum.sum c.in_ok-left.left c.in_ok-left-2.left
    c.in_ok-left-2.right (c.pointer_at.ensures c.args.pool.now c.requires.known)
    c.requires.known.recalled sums.ok sums.kept.front lefts.ok lefts.kept.front sides.ok in
    record {
      sides = subst
          (λ n. PlantsSides c.args.pool.now c.sides_node.new.pool (left_of c.args.conditions.now c.args.place)
          (right_of c.args.conditions.now c.args.place) n
          (get_or (set c.args.self.now.rights.items c.args.place c.in_ok-left-2.right) c.args.place 0)) (sym left_here)
          (subst (λ n. PlantsSides c.args.pool.now c.sides_node.new.pool (left_of c.args.conditions.now c.args.place)
          (right_of c.args.conditions.now c.args.place) c.in_ok-left-2.left n) (sym right_here) taken);
      sum = (sum_more c.sum_at.new.pool c.sides_node.new.pool c.in_ok-sum.sum _
          (front_through c.sum_at.new.pool c.operand_node.new.pool
          c.sides_node.new.pool lefts.kept.front sides.kept.front) sums.ok.spells);
      others = λ i other. (
        get_or-set_other old.lefts.items j i c.in_ok-left-2.left 0 other,
        get_or-set_other old.rights.items j i
            c.in_ok-left-2.right 0 other,
      );
      recalled = c.recalled_after-self.ensures ∙ ap₂ (λ f n. if is_remember f then Some n else c.args.self.now.recalled)
          (ap (λ x. x.flag) same) (sym left_here);
    }
