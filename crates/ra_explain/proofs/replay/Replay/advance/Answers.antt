use Rattle.std.proofs.Common.{◌≡◌, [], ap, ◌∙◌, ◌||◌}
use Rattle.ra_condition.specs.Contents.{trigger_contents}
use Rattle.ra_trigger.specs.declared.change.Change.{Change}
use Rattle.ra_trigger.specs.States.{is_waiting}
use Rattle.ra_trigger.specs.Steps.{together}
use Rattle.ra_explain.proofs.AlikeLemmas.{steps_over}
use Rattle.ra_explain.proofs.LeftLemmas.{together_reset}
use Rattle.ra_explain.proofs.replay.Replay.advance.Goals as goal

pub returns-clause-steps : goal.returns-clause-steps
returns-clause-steps c =
    let t = trigger_contents c.args.text.now in
    let row = c.args.row.now in
    let old = c.args.self.now.trigger in
    let room : c.deref_mut.result.now ≡ old.hits =
    c.deref_mut.ensures.value ∙ c.copy_from_slice.ensures.items ∙ c.hits.ensures in
    let reset : c.resets-reset.result ≡ (together t row [] old.hits).reset =
    c.resets-reset.ensures ∙ ap (λ h. (together t row c.deref.result.now h).reset) room
    ∙ together_reset t row c.deref.result.now [] old.hits in
    steps_over t row c.deref-4.result.now old c.step-change.new.self c.resets-reset.result _
    c.step-change.ensures.kept reset
    (ap (λ w. c.resets-reset.result || w) (c.waits.ensures
    ∙ ap (λ (change : Change). is_waiting change.after) c.step-change.ensures.change))
