use Rattle.std.proofs.Common.{◌∙◌, ◌+◌, sym, ap, arith}
use Rattle.ra_set.proofs.MacroLemmas.{macros-so_far, macro-next, text-next}
use Rattle.ra_set.proofs.limits.macros_in.Goals.{then-is_macro, else-is_macro}
use Rattle.ra_set.proofs.limits.macros_in.Goals as goal

pub overflow_add-count : goal.overflow_add-count
overflow_add-count c = let few = macros-so_far c.args.pieces.now c.loop-piece.piece-index in omega
    (arith, c.loop-piece.invariant, few, c.loop-piece-test.true, c.loop-piece.auto.piece-index-end)

pub loop-piece-preserved : goal.loop-piece-preserved
loop-piece-preserved c = elim c.if-is_macro.branch [
  | then-is_macro w ↦ w.count-is ∙ ap (λ n. n + 1) c.loop-piece.invariant
      ∙ sym (macro-next c.args.pieces.now c.loop-piece.piece-index c.piece-item.result
      c.loop-piece-test.true c.piece-item.is (sym w.if-is_macro.ensures))
  | else-is_macro w ↦ w.count-is ∙ c.loop-piece.invariant
      ∙ sym (text-next c.args.pieces.now c.loop-piece.piece-index c.piece-item.result
      c.loop-piece-test.true c.piece-item.is (sym w.if-is_macro.ensures))
]
