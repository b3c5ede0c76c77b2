-- The states of a leaderboard: docs/DEFINITIONS.md, "Leaderboard states".
use Rattle.std.specs.Prelude.{ℕ, Bool, true, false, ◌&&◌, not, ◌==◌, if◌then◌else◌}
use Rattle.ra_leaderboard.specs.declared.state.BoardState.{BoardState}
use Rattle.ra_leaderboard.specs.declared.state.BoardState.TheVariants.{Waiting, Active, Started, Cancelled, Submitted}

-- the byte of a state in a progress file
abbrev pub board_byte : BoardState → ℕ
board_byte Waiting = 0
board_byte Active = 1
board_byte Started = 2
board_byte Cancelled = 3
board_byte Submitted = 4

-- the state of a byte from 0 to 4
abbrev pub board_state_of : ℕ → BoardState
board_state_of byte =
    if byte == 0 then Waiting else if byte == 1 then Active else if byte == 2 then Started
    else if byte == 3 then Cancelled else Submitted

-- the state after a frame, by the truths of start, cancel and submit
abbrev pub state_after : BoardState → (start cancel submit : Bool) → BoardState
state_after Waiting start cancel submit = if start then Waiting else Active
state_after Active start cancel submit =
    if start && not cancel then (if submit then Submitted else Started) else Active
state_after Started start cancel submit =
    if cancel then Cancelled else if submit then Submitted else Started
state_after Cancelled start cancel submit = if start then Cancelled else Active
state_after Submitted start cancel submit = if start then Submitted else Active

-- the values are stepped in this state
abbrev pub is_running : BoardState → Bool
is_running Started = true
is_running Submitted = true
is_running _ = false

-- the values begin anew: the state leaves active for started or submitted
abbrev pub begins : BoardState → BoardState → Bool
begins Active new = is_running new
begins _ new = false

-- the state became started
abbrev pub became_started : BoardState → BoardState → Bool
became_started Active Started = true
became_started _ _ = false

-- the state became cancelled
abbrev pub became_cancelled : BoardState → BoardState → Bool
became_cancelled Started Cancelled = true
became_cancelled _ _ = false

-- the state became submitted
abbrev pub became_submitted : BoardState → BoardState → Bool
became_submitted Active Submitted = true
became_submitted Started Submitted = true
became_submitted _ _ = false
