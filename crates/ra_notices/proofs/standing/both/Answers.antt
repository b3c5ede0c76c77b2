use Rattle.std.proofs.Common.{◌∙◌, ◌∷◌, ◌++◌, ◌&&◌, [], false, get_or, sym, ap, arith}
use Rattle.std.proofs.lemmas.List.FromFn.{map-range_with_len_more}
use Rattle.ra_notices.proofs.standing.both.Goals as goal

pub loop-place-preserved : goal.loop-place-preserved
loop-place-preserved c =
    let place = c.loop-place.place in
    c.in_ok-push.ensures.items ∙ ap (λ bs. bs ++ (get_or c.args.first.now place false
    && get_or c.args.second.now place false) ∷ []) c.loop-place.invariant
    ∙ sym (map-range_with_len_more (λ j. get_or c.args.first.now j false
    && get_or c.args.second.now j false) 0 place place (omega arith))
