-- The states of an achievement: docs/DEFINITIONS.md, "Achievement states".
use Rattle.std.specs.Prelude.{ℕ, Bool, true, false, ◌&&◌, ◌||◌, ◌==◌, if◌then◌else◌}
use Rattle.ra_trigger.specs.declared.state.State.{State}
use Rattle.ra_trigger.specs.declared.state.State.TheVariants.{Waiting, Active, Paused, Primed, Triggered}

-- the byte of a state in a progress file
abbrev pub state_byte : State → ℕ
state_byte Waiting = 0
state_byte Active = 1
state_byte Paused = 2
state_byte Primed = 3
state_byte Triggered = 4

-- the state of a byte from 0 to 4
abbrev pub state_of : ℕ → State
state_of byte =
    if byte == 0 then Waiting else if byte == 1 then Active else if byte == 2 then Paused
    else if byte == 3 then Primed else Triggered

-- the state is waiting
abbrev pub is_waiting : State → Bool
is_waiting Waiting = true
is_waiting _ = false

-- the state is primed
abbrev pub is_primed : State → Bool
is_primed Primed = true
is_primed _ = false

-- the state is triggered
abbrev pub is_triggered : State → Bool
is_triggered Triggered = true
is_triggered _ = false

-- the state after a frame: that of the first row that fits
abbrev pub state_after : State → (reset valid paused primed : Bool) → State
state_after old reset valid paused primed =
    if is_triggered old then Triggered
    else if reset then (if paused then Paused else Active)
    else if valid then (if is_waiting old then Waiting else Triggered)
    else if paused then Paused
    else if primed then Primed
    else Active

-- the frame clears the hits: the trigger resets, or is valid while it waits
abbrev pub is_cleared : State → (reset valid : Bool) → Bool
is_cleared old reset valid = reset || (is_waiting old && valid)
