use Rattle.std.proofs.Common.{arith, ap, sym, refl, option_map, ◌∙◌, Err}
use Rattle.ra_condition.specs.Contents.{trigger_contents}
use Rattle.ra_set.specs.Contents.{set_contents}
use Rattle.ra_goals.proofs.ChooseLemmas.{chosen_few, chosen_spelled}
use Rattle.ra_explain_job.proofs.JobLemmas.{ran_no_set, ran_lacking, ran_unwatched, ran_watched}
use Rattle.ra_explain_job.proofs.explaining.explain_job.Goals as goal

pub returns-in-Err-clause-ran : goal.returns-in-Err-clause-ran
returns-in-Err-clause-ran g c = ran_no_set c.args.asked.now.set.now c.args.asked.now.trace.now
    c.args.asked.now.id _ _ c.in-Err.unset c.from.result c.from.ensures c.in-Err.ensures.failed refl

pub returns-in_default-clause-ran : goal.returns-in_default-clause-ran
returns-in_default-clause-ran g c =
    ran_lacking c.args.asked.now.set.now c.args.asked.now.trace.now c.args.asked.now.id _ _
    (set_contents c.in-Ok.set) c.in-Ok.ensures.set (sym c.trigger_of.ensures
    ∙ ap (option_map trigger_contents) c.in_default.is) refl

pub watch_trace-requires-clause-few : goal.watch_trace-requires-clause-few
watch_trace-requires-clause-few g c =
    chosen_few c.args.asked.now.id (trigger_contents c.in-Some.text)
    (set_contents c.in-Ok.set) c.in-Ok.ensures.set.playable.limits (sym c.trigger_of.ensures
    ∙ ap (option_map trigger_contents) c.in-Some.is)

pub watch_trace-requires-clause-spelled : goal.watch_trace-requires-clause-spelled
watch_trace-requires-clause-spelled g c =
    chosen_spelled c.args.asked.now.id (trigger_contents c.in-Some.text)
    (set_contents c.in-Ok.set) c.in-Ok.ensures.set.playable.spelled (sym c.trigger_of.ensures
    ∙ ap (option_map trigger_contents) c.in-Some.is)

pub returns-in-Ok-watch_trace-clause-ran : goal.returns-in-Ok-watch_trace-clause-ran
returns-in-Ok-watch_trace-clause-ran g c =
    ran_watched c.args.asked.now.set.now c.args.asked.now.trace.now c.args.asked.now.id _ _
    (set_contents c.in-Ok.set) c.in-Ok.ensures.set (trigger_contents c.in-Some.text)
    (sym c.trigger_of.ensures ∙ ap (option_map trigger_contents) c.in-Some.is)
    c.in-Ok-watch_trace.watch.unlocked c.in-Ok-watch_trace.watch.recorder c.print_watched.result
    c.in-Ok-watch_trace.ensures.trigger
    (λ bytes told. c.in-Ok-watch_trace.ensures.ends bytes (c.in-Ok.ensures.stays.same.each
    c.args.asked.now.trace.now ∙ told)) c.print_watched.ensures.prints

pub returns-in-Err-watch_trace-clause-ran : goal.returns-in-Err-watch_trace-clause-ran
returns-in-Err-watch_trace-clause-ran g c =
    ran_unwatched c.args.asked.now.set.now c.args.asked.now.trace.now c.args.asked.now.id _ _
    (set_contents c.in-Ok.set) c.in-Ok.ensures.set (trigger_contents c.in-Some.text)
    (sym c.trigger_of.ensures ∙ ap (option_map trigger_contents) c.in-Some.is)
    c.in-Err-watch_trace.failed c.from-in-Err-watch_trace.result c.from-in-Err-watch_trace.ensures
    (λ bytes told. c.in-Err-watch_trace.ensures.ends bytes
    (c.in-Ok.ensures.stays.same.each c.args.asked.now.trace.now ∙ told))
    (λ is. let rose = c.in-Err-watch_trace.ensures.read (ap Err is) in
    omega (arith, rose, c.in-Ok.ensures.stays.reads.each c.args.asked.now.trace.now)) refl
