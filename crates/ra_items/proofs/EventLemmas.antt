-- Events of items, one item after the other, and the formats of their numbers.
use Rattle.std.proofs.Common.{◌≡◌, ℕ, ◌&&◌, ◌||◌, not, Bool, true, false, if◌then◌else◌, Option, None, Some, List, []}
use Rattle.std.proofs.Common.{◌∷◌, ◌++◌, sym, ◌∙◌, ap, append_assoc}
use Rattle.std.specs.List.{AllByRecursion}
use Rattle.std.specs.Option.{IfNone, is_some, option_to_list}
use Rattle.ra_value_format.specs.declared.format.Format.{Format}
use Rattle.ra_value_format.specs.Formats.{HasDigits}
use Rattle.ra_leaderboard.specs.States.{became_started, became_cancelled, became_submitted}
use Rattle.ra_trigger.specs.declared.change.Change.{Change}
use Rattle.ra_trigger.specs.States.{is_primed, is_triggered}
use Rattle.ra_set.specs.Contents.{ItemContents, Unlocks, Ranks}
use Rattle.ra_items.specs.declared.board_run.BoardRun.{BoardRun}
use Rattle.ra_meaning.specs.declared.event.Event.{Event}
use Rattle.ra_meaning.specs.declared.event.Event.TheVariants as events
use Rattle.ra_items.specs.declared.item_run.ItemRun.{ItemRun}
use Rattle.ra_items.specs.declared.item_run.ItemRun.TheVariants.{Achievement, Leaderboard}
use Rattle.ra_items.specs.AllRuns.{HaveDigits, all_events}
use Rattle.ra_meaning.specs.Boards.{tracked_number, value_number}
use Rattle.ra_items.specs.BoardRuns.{board_kept}
use Rattle.ra_meaning.specs.Events.{event_if, is_started, same_number}
use Rattle.ra_meaning.specs.Lines.{HasEventDigits}
use Rattle.ra_items.specs.Rests.{events_at, events_of}
use Rattle.ra_items.specs.RunEvents.{HasItemDigits, measured_event, change_events, board_run_events, run_events}
use Rattle.ra_meaning.proofs.Each.{each_append}

abbrev pub Have : List Event → Type 0
Have events = AllByRecursion HasEventDigits events

one_of : (happened : Bool) (event : Event) → HasEventDigits event → Have (event_if happened event)
one_of true event has = (has, tt)
one_of false event has = tt

measured_has : (id : ℕ) (number : Option ℕ) → Have (measured_event id number)
measured_has id None = tt
measured_has id (Some number) = (tt, tt)

-- four rows, one behind the other
rows_have : (a b c d : List Event) → Have a → Have b → Have c → Have d → Have (((a ++ b) ++ c) ++ d)
rows_have a b c d first second third fourth =
    each_append HasEventDigits ((a ++ b) ++ c) d (each_append HasEventDigits (a ++ b) c
    (each_append HasEventDigits a b first second) third) fourth

change_has : (id : ℕ) (change : Change) → Have (change_events id change)
change_has id change =
    let primed = not (is_primed change.before) && is_primed change.after in
    let unprimed = is_primed change.before && not (is_primed change.after) in
    let unlocked = not (is_triggered change.before) && is_triggered change.after in
    rows_have (measured_event id change.measured) (event_if primed (events.Primed id))
    (event_if unprimed (events.Unprimed id)) (event_if unlocked (events.Unlock id))
    (measured_has id change.measured) (one_of primed (events.Primed id) tt)
    (one_of unprimed (events.Unprimed id) tt) (one_of unlocked (events.Unlock id) tt)

board_has : (id : ℕ) (format : Format) (run : BoardRun) → HasDigits format → Have (board_run_events id format run)
board_has id format run has =
    let started = became_started run.change.before run.change.after in
    let tracked = tracked_number (board_kept run) in
    let told = is_started run.change.after && (started || not (same_number run.tracked_before tracked)) in
    let cancelled = became_cancelled run.change.before run.change.after in
    let submitted = became_submitted run.change.before run.change.after in
    let submit = events.Submit id (value_number (board_kept run)) format in
    rows_have (event_if started (events.Start id)) (event_if told (events.Track id tracked format))
    (event_if cancelled (events.Cancel id)) (event_if submitted submit)
    (one_of started (events.Start id) tt) (one_of told (events.Track id tracked format) has)
    (one_of cancelled (events.Cancel id) tt) (one_of submitted submit has)

-- an achievement that was earned has none
achievement_has : (id : ℕ) (change : Change) (earned : Bool) → Have (if earned then [] else change_events id change)
achievement_has id change true = tt
achievement_has id change false = change_has id change

item_has : (item : ItemContents) (run : ItemRun) → HasItemDigits item → Have (run_events item run)
item_has (Unlocks id t) (Achievement run) has = achievement_has id run.change run.silent
item_has (Unlocks id t) (Leaderboard run) has = tt
item_has (Ranks id format b) (Achievement run) has = tt
item_has (Ranks id format b) (Leaderboard run) has = board_has id format run has

pub events_have : (items : List ItemContents) (runs : List ItemRun) → HaveDigits items → Have (all_events items runs)
events_have [] runs have = tt
events_have (item ∷ items) [] have = tt
events_have (item ∷ items) (run ∷ runs) have =
    each_append HasEventDigits (run_events item run) (all_events items runs)
    (item_has item run have.0) (events_have items runs have.1)

-- the first place is gone through: what is left of its events stands in front of those of the others
pub walk_on : (items : List ItemContents) (runs : List ItemRun) (places others : List ℕ) (place : ℕ)
    (told event rest : List Event) → places ≡ place ∷ others → told ≡ events_at items runs place
    → told ≡ event ++ rest
    → events_of items runs places ≡ event ++ (rest ++ events_of items runs others)
walk_on items runs places others place told event rest is is_told splits =
    ap (events_of items runs) is
    ∙ ap (λ l. l ++ events_of items runs others) (sym is_told ∙ splits)
    ∙ append_assoc event rest (events_of items runs others)

-- where no event is left of an item, only those of the others are
pub walk_past : (event : Option Event) (told behind : List Event) → is_some event ≡ false
    → IfNone event (told ≡ []) → option_to_list event ++ (told ++ behind) ≡ behind
walk_past None told behind is none = ap (λ l. l ++ behind) none
walk_past (Some event) told behind is none = absurd (let bad : true ≡ false = is in cc)
