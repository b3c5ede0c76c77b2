use Rattle.std.proofs.Common.{◌≡◌, suc, ◌+◌, ◌++◌, [], ◌∷◌, ap, sym, ◌∙◌, arith}
use Rattle.std.specs.List.{range_with_len}
use Rattle.ra_memref.proofs.Orders.{range_more}
use Rattle.ra_memref.proofs.watches.order_of.Goals as goal

pub loop-cell-preserved : goal.loop-cell-preserved
loop-cell-preserved c =
    let cell = c.loop-cell.cell in
    let next : suc cell ≡ cell + 1 = omega arith in
    let here : 0 + cell ≡ cell = omega arith in
    c.in_ok-push.ensures.items
    ∙ ap (λ xs. xs ++ cell ∷ []) c.loop-cell.invariant
    ∙ ap (λ x. range_with_len 0 cell ++ x ∷ []) (sym here)
    ∙ sym (range_more 0 cell)
    ∙ ap (range_with_len 0) next
