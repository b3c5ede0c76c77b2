use Rattle.std.proofs.Common.{◌≡◌, ℕ, ◌<◌, ◌^◌, get_or, arith, true, ◌↔◌, ◌⊎◌, None, List, sym, ap, ◌∙◌, subst}
use Rattle.ra_condition.specs.declared.condition.Condition.{Condition}
use Rattle.ra_condition.specs.Contents.{group_contents}
use Rattle.ra_condition.specs.Chains.{pass_order}
use Rattle.ra_group.specs.Along.{pause_count}
use Rattle.ra_group.specs.Equations.{frame_of}
use Rattle.ra_group.specs.declared.outcome.Outcome.{Outcome}
use Rattle.ra_group.specs.Outcome.{outcome_of}
use Rattle.ra_group.specs.OutcomeLaws.{NoneMeasured}
use Rattle.ra_group.proofs.OutcomeLemmas.{unmeasured}
use Rattle.ra_group.proofs.TextOrder.{few_in_text}
use Rattle.ra_group.proofs.pass.step.Goals as goal

pub in_text_order-requires-clause-few : goal.in_text_order-requires-clause-few
in_text_order-requires-clause-few c =
    let contents = c.as_slice-conditions.ensures.value in
    let fits : (k : ℕ) → get_or c.args.order.now k 0 < 2 ^ 32 = λ k. (let fit = c.type_inv.order k in omega arith) in
    few_in_text c.as_slice-conditions.result.now c.args.order.now (c.requires.order ∙ ap pass_order
    (sym contents)) (ap pause_count contents ∙ sym c.requires.pauses ∙ c.if-pauses-eq0.true) fits

pub returns-then-pauses-eq0-clause-unmeasured : goal.returns-then-pauses-eq0-clause-unmeasured
returns-then-pauses-eq0-clause-unmeasured c =
    let f = frame_of (group_contents c.args.group.now) c.args.truths.now c.args.lefts.now c.args.hits.now in
    let is = c.in_text_order.ensures.outcome ∙ ap
    (λ (cs : List Condition). outcome_of c.args.form (frame_of cs c.args.truths.now c.args.lefts.now
    c.args.hits.now)) c.as_slice-conditions.ensures.value in
    subst (λ (o : Outcome). (o.measured ≡ None) ↔ ((o.paused ≡ true) ⊎ NoneMeasured f)) (sym is)
    (unmeasured c.args.form f)

pub returns-else-pauses-eq0-clause-unmeasured : goal.returns-else-pauses-eq0-clause-unmeasured
returns-else-pauses-eq0-clause-unmeasured c =
    let f = frame_of (group_contents c.args.group.now) c.args.truths.now c.args.lefts.now c.args.hits.now in
    let is = c.in_pass_order.ensures.outcome ∙ ap
    (λ (cs : List Condition). outcome_of c.args.form (frame_of cs c.args.truths.now c.args.lefts.now
    c.args.hits.now)) c.as_slice-conditions.ensures.value in
    subst (λ (o : Outcome). (o.measured ≡ None) ↔ ((o.paused ≡ true) ⊎ NoneMeasured f)) (sym is)
    (unmeasured c.args.form f)
