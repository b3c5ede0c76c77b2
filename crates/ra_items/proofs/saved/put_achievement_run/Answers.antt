use Rattle.std.proofs.Common.{ℕ, ◌<◌, ◌^◌, subst, arith}
use Rattle.ra_progress.specs.Contents.{ItemFits}
use Rattle.ra_progress.specs.declared.shape.ItemShape.TheVariants as shapes
use Rattle.ra_trigger.specs.Steps.{TriggerKept}
use Rattle.ra_meaning.specs.Openings.{kept_achievement}
use Rattle.ra_items.proofs.SaveLemmas.{achievement_kept_fits}
use Rattle.ra_items.proofs.saved.put_achievement_run.Goals as goal

pub returns-clause-fits : goal.returns-clause-fits
returns-clause-fits c =
    let run = c.args.run.now in
    let measured : run.run.trigger.measured < 2 ^ 32 = omega arith in
    let kept : TriggerKept =
    record { state = run.run.trigger.state; measured = run.run.trigger.measured; hits = c.args.hits.now } in
    subst (λ (n : ℕ). ItemFits (shapes.Achievement n) (kept_achievement run.earned kept)) c.requires.many
    (achievement_kept_fits run.earned kept measured c.in_ok-put_achievement.ensures.hits)
