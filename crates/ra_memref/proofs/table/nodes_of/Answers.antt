use Rattle.std.proofs.Common.{arith, ◌++◌, ◌∷◌, [], ap, sym, ◌∙◌, take}
use Rattle.std.proofs.lemmas.List.{take_more}
use Rattle.std.proofs.lemmas.Option.{get_or_from_slice_get}
use Rattle.ra_memref.proofs.table.nodes_of.Goals as goal

pub loop-number-preserved : goal.loop-number-preserved
loop-number-preserved c =
    let pool = c.args.pool.now in
    let number = c.loop-number.number in
    let node = c.node.result in
    c.in_ok-push.ensures.items
    ∙ ap (λ ns. ns ++ c.node.result ∷ []) c.loop-number.invariant
    ∙ sym (take_more pool number node (omega arith) ∙ ap (λ x. take c.loop-number.number
    c.args.pool.now ++ x ∷ []) (get_or_from_slice_get pool number node node c.node.ensures.node))
