use Rattle.std.proofs.Common.{ℕ, ◌+◌, sym, ◌∙◌, subst, arith}
use Rattle.ra_condition.proofs.OrderLemmas.{place_below}
use Rattle.ra_chain.proofs.Pauses.{EndsPauses, pauses_here, pauses_there, pauses_all, pauses_none}
use Rattle.ra_chain.proofs.order.pause_places.Goals as goal
use Rattle.ra_chain.proofs.order.pause_places.Goals.{then-is_pause, else-is_pause}

pub bounds-conditions-place : goal.bounds-conditions-place
bounds-conditions-place c = place_below c.args.conditions.now c.args.order.now c.loop-turn.turn
    c.requires c.loop-turn-test.true

pub loop-turn-init : goal.loop-turn-init
loop-turn-init c = pauses_none c.args.conditions.now c.args.order.now

pub loop-turn-preserved : goal.loop-turn-preserved
loop-turn-preserved c =
    let so_far : ℕ → Type 0 = λ n. EndsPauses c.args.conditions.now c.args.order.now (c.loop-turn.turn + 1) n in
    elim c.if-is_pause.branch [
      | then-is_pause w ↦ subst so_far (sym w.pauses-is) (pauses_here c.args.conditions.now
          c.args.order.now c.loop-turn.turn (sym c.is_pause.ensures ∙ w.if-is_pause.true))
      | else-is_pause w ↦ subst so_far (sym w.pauses-is)
          (pauses_there c.args.conditions.now c.args.order.now c.loop-turn.turn c.loop-turn.pauses
          (sym c.is_pause.ensures ∙ w.if-is_pause.false) c.loop-turn.invariant)
    ]

pub returns : goal.returns
returns c = pauses_all c.args.conditions.now c.args.order.now c.loop-turn.turn c.loop-turn.pauses
    c.requires (omega arith) c.loop-turn.invariant
