use Rattle.std.proofs.Common.{◌∷◌, subst}
use Rattle.ra_condition.specs.Contents.{trigger_contents}
use Rattle.ra_account.specs.Triggers.{IsTriggerAccount, TriggerRow, row_with}
use Rattle.ra_why.proofs.showing.note_frame.Goals as goal

pub returns-clause-noted : goal.returns-clause-noted
returns-clause-noted c = λ earlier known.
    let t = trigger_contents c.args.text.now in
    let waits = c.stays_waiting.ensures in
    let truths = c.deref.ensures.value in
    let lefts = c.deref-2.ensures.value in
    let rights = c.deref-3.ensures.value in
    let hits = c.deref-4.ensures.value in
    subst (λ (r : TriggerRow). IsTriggerAccount t c.args.size (r ∷ earlier) c.note.new.self)
    (λ i. row_with t (waits i) (record { truths = truths i; lefts = lefts i; rights = rights i; hits = hits i }))
    (c.note.ensures.noted earlier known)
