use Rattle.std.proofs.Common.{◌≡◌, ◌-◌, false, sym, ◌∙◌, arith}
use Rattle.std.proofs.lemmas.List.FromFn.{fill_by_all}
use Rattle.ra_condition.specs.Chains.{in_pause_chain}
use Rattle.ra_chain.proofs.Marks.{marked_turn, mark_combined, mark_last}
use Rattle.ra_chain.proofs.order.pausing_of.Goals as goal
use Rattle.ra_chain.proofs.order.pausing_of.Goals.{then-not-combines, else-not-combines}

pub loop-place-preserved : goal.loop-place-preserved
loop-place-preserved c =
    let cs = c.args.conditions.now in
    let place = c.loop-place.place in
    let mark : c.if-not-combines.pauses ≡ in_pause_chain cs (place - 1) =
    elim c.if-not-combines.branch [
      | then-not-combines w ↦ w.pauses-is ∙ w.is_pause-pauses.ensures
          ∙ mark_last cs (place - 1) (sym c.combines.ensures ∙ w.if-not-combines.true)
      | else-not-combines w ↦ w.pauses-is ∙ mark_combined cs place c.loop-place.pauses (omega arith)
          (sym c.combines.ensures ∙ w.if-not-combines.false) c.loop-place.invariant.first
    ] in
    marked_turn cs c.loop-place.marks.items place c.loop-place.pauses c.if-not-combines.pauses
    (omega arith) c.loop-place.invariant mark

pub returns : goal.returns
returns c =
    let marked = c.loop-place.invariant in
    fill_by_all (in_pause_chain c.args.conditions.now) c.loop-place.marks.items _ false marked.whole
    (λ k l. marked.each k (omega arith) l)
