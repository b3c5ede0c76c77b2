use Rattle.std.proofs.Common.{ℕ, Bool, false, get_or, ap, ◌∙◌}
use Rattle.std.specs.Bool.{beq}
use Rattle.ra_chain.proofs.Marks.{added_more, added_same}
use Rattle.ra_chain.proofs.order.push_places.Goals as goal
use Rattle.ra_chain.proofs.order.push_places.Goals.{then-mark-marked+in_ok-push, else-mark-marked}

pub loop-place-preserved : goal.loop-place-preserved
loop-place-preserved c =
    let q : ℕ → Bool = λ j. beq (get_or c.args.marks.now j false) c.args.marked in
    elim c.if-mark-marked.branch [
      | then-mark-marked+in_ok-push w ↦ added_more q c.args.order.now.items c.loop-place.order.items
          c.if-mark-marked.order.items c.loop-place.place c.loop-place.invariant
          w.if-mark-marked.true (ap (λ v. v.items) w.order-is ∙ w.in_ok-push.ensures.items)
      | else-mark-marked w ↦ added_same q c.args.order.now.items c.loop-place.order.items
          c.if-mark-marked.order.items c.loop-place.place c.loop-place.invariant
          w.if-mark-marked.false (ap (λ v. v.items) w.order-is)
    ]
