use Rattle.std.proofs.Common.{length, ◌∙◌, sym, ap}
use Rattle.ra_chain.proofs.NoPauses.{none_pauses, text_order}
use Rattle.ra_chain.proofs.order.passes_of.Goals as goal

pub returns-in_ok-order-2-clause-order : goal.returns-in_ok-order-2-clause-order
returns-in_ok-order-2-clause-order c =
    c.in_ok-order-2.ensures ∙ sym (text_order c.args.conditions.now (c.has_pause.ensures c.if-has_pause.false))

pub returns-in_ok-order-2-clause-pauses : goal.returns-in_ok-order-2-clause-pauses
returns-in_ok-order-2-clause-pauses c =
    ap length (sym (none_pauses c.args.conditions.now (c.has_pause.ensures c.if-has_pause.false)))
