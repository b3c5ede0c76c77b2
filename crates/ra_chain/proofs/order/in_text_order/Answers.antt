use Rattle.std.proofs.Common.{◌≡◌, suc, ◌+◌, ◌++◌, ◌∷◌, [], ◌∙◌, sym, ap, ap₂, arith}
use Rattle.std.specs.List.{range_with_len}
use Rattle.ra_condition.proofs.Passes.{range_more}
use Rattle.ra_chain.proofs.order.in_text_order.Goals as goal

pub loop-place-preserved : goal.loop-place-preserved
loop-place-preserved c =
    let first : c.loop-place.place ≡ 0 + c.loop-place.place = omega arith in
    let next : suc c.loop-place.place ≡ c.loop-place.place + 1 = omega arith in
    c.in_ok-push.ensures.items ∙ ap₂ (λ ns n. ns ++ n ∷ []) c.loop-place.invariant first
    ∙ sym (range_more 0 c.loop-place.place) ∙ ap (range_with_len 0) next
