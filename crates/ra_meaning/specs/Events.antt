-- The events of items at a frame, none of which sees another item: docs/DEFINITIONS.md, "Events".
use Rattle.std.specs.Prelude.{ℕ, ℤ, ◌==◌, ◌&&◌, ◌||◌, not, Bool, true, false, if◌then◌else◌, List, [], ◌∷◌, ◌++◌}
use Rattle.std.specs.Int.{w32, cast_unsigned}
use Rattle.ra_value_format.specs.declared.format.Format.{Format}
use Rattle.ra_trigger.specs.States.{is_primed, is_triggered}
use Rattle.ra_trigger.specs.Steps.{TriggerKept}
use Rattle.ra_leaderboard.specs.States.{became_started, became_cancelled, became_submitted}
use Rattle.ra_leaderboard.specs.declared.state.BoardState.{BoardState}
use Rattle.ra_leaderboard.specs.declared.state.BoardState.TheVariants.{Started}
use Rattle.ra_meaning.specs.declared.event.Event.{Event}
use Rattle.ra_meaning.specs.declared.event.Event.TheVariants as events
use Rattle.ra_meaning.specs.Boards.{BoardKept, tracked_number, value_number}

-- an event where it happened
abbrev pub event_if : Bool → Event → List Event
event_if happened event = if happened then event ∷ [] else []

-- the events of an achievement at a frame, by what is kept before and after it
abbrev pub achievement_events : (id : ℕ) → (before after : TriggerKept) → List Event
achievement_events id before after =
    event_if (not (before.measured == after.measured)) (events.Measured id after.measured)
    ++ event_if (not (is_primed before.state) && is_primed after.state) (events.Primed id)
    ++ event_if (is_primed before.state && not (is_primed after.state)) (events.Unprimed id)
    ++ event_if (not (is_triggered before.state) && is_triggered after.state) (events.Unlock id)

-- whether the state is that of an attempt that runs
abbrev pub is_started : BoardState → Bool
is_started Started = true
is_started _ = false

-- two signed numbers of 32 bits are the same
abbrev pub same_number : ℤ → ℤ → Bool
same_number v w = cast_unsigned w32 v == cast_unsigned w32 w

-- the events of a board at a frame; while it runs its tracked number is told where it just started or changed
abbrev pub board_events : (id : ℕ) → Format → (before after : BoardKept) → List Event
board_events id format before after =
    let started = became_started before.state after.state in
    let tracked = tracked_number after in
    let changed = not (same_number (tracked_number before) tracked) in
    event_if started (events.Start id)
    ++ event_if (is_started after.state && (started || changed)) (events.Track id tracked format)
    ++ event_if (became_cancelled before.state after.state) (events.Cancel id)
    ++ event_if (became_submitted before.state after.state) (events.Submit id (value_number after) format)
