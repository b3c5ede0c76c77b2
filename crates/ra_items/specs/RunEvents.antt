-- The events of an item by the record of its last frame: docs/DEFINITIONS.md, "Events".
use Rattle.std.specs.Prelude.{ℕ, ◌&&◌, ◌||◌, not, if◌then◌else◌, Option, None, Some, List, [], ◌∷◌, ◌++◌}
use Rattle.std.specs.Option.{option_to_list}
use Rattle.ra_value_format.specs.declared.format.Format.{Format}
use Rattle.ra_value_format.specs.Formats.{HasDigits}
use Rattle.ra_trigger.specs.declared.change.Change.{Change}
use Rattle.ra_trigger.specs.States.{is_primed, is_triggered}
use Rattle.ra_leaderboard.specs.States.{became_started, became_cancelled, became_submitted}
use Rattle.ra_set.specs.Contents.{ItemContents, Unlocks, Ranks}
use Rattle.ra_items.specs.declared.achievement_run.AchievementRun.{AchievementRun}
use Rattle.ra_items.specs.declared.board_run.BoardRun.{BoardRun}
use Rattle.ra_meaning.specs.declared.event.Event.{Event}
use Rattle.ra_meaning.specs.declared.event.Event.TheVariants as events
use Rattle.ra_items.specs.declared.item_run.ItemRun.{ItemRun}
use Rattle.ra_items.specs.declared.item_run.ItemRun.TheVariants.{Achievement, Leaderboard}
use Rattle.ra_items.specs.declared.told.Told.{Told}
use Rattle.ra_meaning.specs.Boards.{tracked_number, value_number}
use Rattle.ra_items.specs.BoardRuns.{board_kept}
use Rattle.ra_meaning.specs.Events.{event_if, is_started, same_number}

-- the event of a new measured number, if there is one
abbrev pub measured_event : ℕ → Option ℕ → List Event
measured_event id None = []
measured_event id (Some number) = events.Measured id number ∷ []

-- the events of an achievement
abbrev pub change_events : (id : ℕ) → Change → List Event
change_events id change =
    measured_event id change.measured
    ++ event_if (not (is_primed change.before) && is_primed change.after) (events.Primed id)
    ++ event_if (is_primed change.before && not (is_primed change.after)) (events.Unprimed id)
    ++ event_if (not (is_triggered change.before) && is_triggered change.after) (events.Unlock id)

-- the events of a board
abbrev pub board_run_events : (id : ℕ) → Format → BoardRun → List Event
board_run_events id format run =
    let started = became_started run.change.before run.change.after in
    let tracked = tracked_number (board_kept run) in
    let changed = not (same_number run.tracked_before tracked) in
    event_if started (events.Start id)
    ++ event_if (is_started run.change.after && (started || changed)) (events.Track id tracked format)
    ++ event_if (became_cancelled run.change.before run.change.after) (events.Cancel id)
    ++ event_if (became_submitted run.change.before run.change.after)
    (events.Submit id (value_number (board_kept run)) format)

-- the events of an achievement, which has none where it was earned before its last frame
abbrev pub achievement_run_events : (id : ℕ) → AchievementRun → List Event
achievement_run_events id run = if run.silent then [] else change_events id run.change

-- the events of an item
abbrev pub run_events : ItemContents → ItemRun → List Event
run_events (Unlocks id t) (Achievement run) = achievement_run_events id run
run_events (Ranks id format b) (Leaderboard run) = board_run_events id format run
run_events _ _ = []

-- the events of an item that are not taken yet
abbrev pub told_events : Told → List Event
told_events told =
    option_to_list told.first ++ option_to_list told.second ++ option_to_list told.third ++ option_to_list told.fourth

-- the format of a board has digits
abbrev pub HasItemDigits : ItemContents → Type 0
HasItemDigits (Unlocks id t) = Unit {0}
HasItemDigits (Ranks id format b) = HasDigits format
