use Rattle.std.proofs.Common.{◌∙◌, sym, inl, inr, arith}
use Rattle.std.proofs.lemmas.Bool.{cases_lt}
use Rattle.ra_chain.proofs.NoPauses.{one_more}
use Rattle.ra_chain.proofs.order.has_pause.Goals as goal

pub loop-condition-init : goal.loop-condition-init
loop-condition-init c = λ k d within. absurd (omega (arith, within))

pub loop-condition-preserved : goal.loop-condition-preserved
loop-condition-preserved c = λ k d within. elim (cases_lt k c.loop-condition.condition-index) [
  | inl before ↦ c.loop-condition.invariant k d before
  | inr last ↦ one_more c.args.conditions.now c.loop-condition.condition-index k d _ last within
      (omega (arith, within, c.loop-condition-test.true)) (sym c.is_pause.ensures
      ∙ c.if-is_pause.false)
]

pub returns : goal.returns
returns c = λ no k d within. c.loop-condition.invariant k d (omega (arith, within, c.loop-condition-test.false))
