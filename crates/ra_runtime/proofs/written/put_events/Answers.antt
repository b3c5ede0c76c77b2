use Rattle.std.proofs.Common.{Result, Ok, Err, ◌∙◌}
use Rattle.std.specs.Result.{OnErr}
use Rattle.ra_runtime.proofs.LineLemmas.{front_of}
use Rattle.ra_runtime.proofs.written.put_events.Goals as goal

-- what holds anyway holds of an error
anyway : {T E A : Type 0} (r : Result T E) → A → OnErr r A
anyway (Ok x) h = tt
anyway (Err e) h = h

pub returns-in_err-put_event-clause-front : goal.returns-in_err-put_event-clause-front
returns-in_err-put_event-clause-front c =
    anyway c.from_residual.result (front_of c.args.frame _ _ c.loop-event.yielded
    c.loop-event.event-iterator _ c.loop-event.invariant.text c.loop-event.invariant.left)

pub returns-in_err-extend_from_slice-clause-front :
    goal.returns-in_err-extend_from_slice-clause-front
returns-in_err-extend_from_slice-clause-front c =
    anyway c.from_residual-in_err-extend_from_slice.result (front_of c.args.frame _ _
    c.loop-event.yielded c.loop-event.event-iterator _ (c.in_err-extend_from_slice.ensures.items
    ∙ c.loop-event.invariant.text) c.loop-event.invariant.left)
