-- A trigger that waits stays waiting exactly where it is valid.
use Rattle.std.proofs.Common.{◌≡◌, ℕ, ◌&&◌, not, Bool, true, false, List, refl}
use Rattle.ra_condition.specs.Contents.{TriggerContents}
use Rattle.ra_trigger.specs.declared.state.State.{State}
use Rattle.ra_trigger.specs.declared.state.State.TheVariants.{Waiting, Active, Paused, Primed, Triggered}
use Rattle.ra_trigger.specs.States.{is_waiting, state_after}
use Rattle.ra_trigger.specs.Steps.{TriggerKept, step, together}

-- the state after a frame, by the parts of the verdict; no reset is valid
stays_by : (reset valid paused primed : Bool)
    → is_waiting (state_after Waiting reset (not reset && valid) paused primed) ≡ (not reset && valid)
stays_by true valid true primed = refl
stays_by true valid false primed = refl
stays_by false true paused primed = refl
stays_by false false true primed = refl
stays_by false false false true = refl
stays_by false false false false = refl

-- a frame of an achievement of this state
abbrev of_state : State → TriggerKept → TriggerKept
of_state state old = record { state = state; measured = old.measured; hits = old.hits }

stays_of : (t : TriggerContents) (truths : List Bool) (lefts : List ℕ) (old : TriggerKept) (state : State)
    → (is_waiting state && is_waiting (step t truths lefts (of_state state old)).state)
    ≡ (is_waiting state && (together t truths lefts old.hits).valid)
stays_of t truths lefts old Waiting = stays_by (together t truths lefts old.hits).reset _ _ _
stays_of t truths lefts old Active = refl
stays_of t truths lefts old Paused = refl
stays_of t truths lefts old Primed = refl
stays_of t truths lefts old Triggered = refl

-- it was waiting and waits, as it was waiting and is valid
pub stays_waiting : (t : TriggerContents) (truths : List Bool) (lefts : List ℕ) (old : TriggerKept)
    → (is_waiting old.state && is_waiting (step t truths lefts old).state)
    ≡ (is_waiting old.state && (together t truths lefts old.hits).valid)
stays_waiting t truths lefts old = stays_of t truths lefts old old.state
