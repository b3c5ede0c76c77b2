use Rattle.std.proofs.Common.{◌≡◌, false, [], ap, sym, ◌∙◌, cond}
use Rattle.ra_condition.specs.Contents.{trigger_contents}
use Rattle.ra_trigger.specs.Steps.{TriggerKept, together, cleared}
use Rattle.ra_explain.proofs.LeftLemmas.{together_reset, together_valid, together_hits}
use Rattle.ra_explain.proofs.replay.Replay.step.Goals as goal

pub returns-clause-steps : goal.returns-clause-steps
returns-clause-steps c =
    let t = trigger_contents c.args.text.now in
    let row = c.args.row.now in
    let hits = c.args.self.now.trigger.hits in
    let room : c.deref_mut.result.now ≡ hits =
    c.deref_mut.ensures.value ∙ c.copy_from_slice.ensures.items ∙ c.hits.ensures in
    let reset : c.resets-reset.result ≡ (together t row [] hits).reset =
    c.resets-reset.ensures ∙ ap (λ h. (together t row c.deref.result.now h).reset) room
    ∙ together_reset t row c.deref.result.now [] hits in
    record {
      reset = reset;
      valid = c.truth-valid.ensures.truth ∙ together_valid t row c.deref-4.result.now [] hits;
      hits = λ none.
          let stays : (together t row c.deref-4.result.now hits).reset ≡ false =
          together_reset t row c.deref-4.result.now [] hits ∙ sym reset ∙ none in
          ap (λ (k : TriggerKept). k.hits) c.truth-valid.ensures.kept
          ∙ ap (λ b. cond b (cleared (together t row c.deref-4.result.now hits).hits)
          (together t row c.deref-4.result.now hits).hits) stays
          ∙ together_hits t row c.deref-4.result.now [] hits;
    }
