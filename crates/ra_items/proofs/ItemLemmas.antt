-- One frame of an item by its run is one frame of it by the definitions.
use Rattle.std.proofs.Common.{◌≡◌, ℕ, ℤ, ◌&&◌, ◌||◌, ◌==◌, Bool, true, false, not, if◌then◌else◌, None, Some, List, []}
use Rattle.std.proofs.Common.{◌∷◌, ◌++◌, refl, sym, ◌∙◌, ap, ap₂, arith}
use Rattle.ra_condition.specs.Contents.{TriggerContents}
use Rattle.ra_indirect.specs.declared.node.Node.{Node}
use Rattle.ra_memref.specs.Table.{TableSeen}
use Rattle.ra_trigger.specs.Kept.{change_between}
use Rattle.ra_trigger.specs.Steps.{TriggerKept}
use Rattle.ra_value_format.specs.declared.format.Format.{Format}
use Rattle.ra_leaderboard.specs.declared.state.BoardState.{BoardState}
use Rattle.ra_leaderboard.specs.States.{became_started, became_cancelled, became_submitted}
use Rattle.ra_leaderboard.specs.Contents.{BoardContents}
use Rattle.ra_set.specs.Contents.{ItemContents, Unlocks, Ranks}
use Rattle.ra_progress.specs.Contents.{KeptItem}
use Rattle.ra_member.proofs.Shaped.{member_shape}
use Rattle.ra_items.specs.declared.achievement_run.AchievementRun.{AchievementRun}
use Rattle.ra_items.specs.declared.board_run.BoardRun.{BoardRun}
use Rattle.ra_items.specs.declared.item_run.ItemRun.TheVariants.{Achievement, Leaderboard}
use Rattle.ra_meaning.specs.Boards.{tracked_number, value_number, board_after, kept_board}
use Rattle.ra_meaning.specs.declared.event.Event.{Event}
use Rattle.ra_meaning.specs.declared.event.Event.TheVariants as events
use Rattle.ra_meaning.specs.Events.{event_if, is_started, same_number, achievement_events, board_events}
use Rattle.ra_meaning.specs.Openings.{kept_achievement}
use Rattle.ra_meaning.specs.Histories.{achievement_after}
use Rattle.ra_meaning.specs.Order.{board_member}
use Rattle.ra_items.specs.Runs.{StepsAchievement, earned_by}
use Rattle.ra_items.specs.BoardRuns.{IsBoardRun, StepsBoard, board_kept}
use Rattle.ra_items.specs.RunEvents.{measured_event, change_events, board_run_events}
use Rattle.ra_items.specs.ItemRuns.{StepsItem, kept_run}
use Rattle.ra_meaning.specs.Play.{item_events, unless_earned}
use Rattle.ra_meaning.proofs.Openings.Again.{achievement_again, board_again}

same_turned : (m n : ℕ) → (m == n) ≡ (n == m)
same_turned m n = grind arith

measured_same : (id n : ℕ) (same : Bool) → measured_event id (if same then None else Some n)
    ≡ event_if (not same) (events.Measured id n)
measured_same id n true = refl
measured_same id n false = refl

-- the events by the record of a frame are those by what stood before and after it
change_told : (id : ℕ) (old new : TriggerKept) → change_events id (change_between old new)
    ≡ achievement_events id old new
change_told id old new =
    rw (measured_same id new.measured (new.measured == old.measured), same_turned new.measured old.measured) refl

-- nothing is told of what was earned, and of what was not what stands for it
unless_is : (earned : Bool) (told : List Event) (tells : ItemContents × KeptItem → List Event)
    (item : ItemContents × KeptItem) → told ≡ tells item → (if earned then [] else told)
    ≡ unless_earned tells (earned, item)
unless_is true told tells item is = refl
unless_is false told tells item is = is

pub achievement_item : (table : TableSeen) (id : ℕ) (t : TriggerContents) (old new : AchievementRun)
    → StepsAchievement table t old new
    → StepsItem table (Unlocks id t) (Achievement old) (Achievement new)
achievement_item table id t old new steps =
    let again = sym (achievement_again old.earned old.run.trigger) in
    record {
      kept = λ start image has.
          ap₂ kept_achievement steps.earned (steps.trigger.kept start (image ∷ []) has
          ∙ ap (λ k. achievement_after start t k (image ∷ [])) again);
      events = λ start image has.
          ap (λ earned. if earned then [] else change_events id new.change) steps.silent
          ∙ unless_is (earned_by old) (change_events id new.change) (item_events start image [])
          (Unlocks id t, kept_run (Achievement old))
          (ap (change_events id) steps.trigger.told
          ∙ change_told id old.run.trigger new.run.trigger
          ∙ ap₂ (achievement_events id) again (steps.trigger.kept start (image ∷ []) has
          ∙ ap (λ k. achievement_after start t k (image ∷ [])) again));
    }

-- the events of a board by states and numbers
abbrev events_with : (id : ℕ) → Format → (before after : BoardState) → (tracked_before tracked value : ℤ) → List Event
events_with id format before after tracked_before tracked value =
    let started = became_started before after in
    let changed = not (same_number tracked_before tracked) in
    event_if started (events.Start id)
    ++ event_if (is_started after && (started || changed)) (events.Track id tracked format)
    ++ event_if (became_cancelled before after) (events.Cancel id)
    ++ event_if (became_submitted before after) (events.Submit id value format)

board_told : (table : TableSeen) (id : ℕ) (format : Format) (b : BoardContents) (old new : BoardRun)
    → StepsBoard table b old new → board_run_events id format new
    ≡ board_events id format (board_kept old) (board_kept new)
board_told table id format b old new steps =
    (λ i. events_with id format (steps.before i) (steps.after i) (steps.tracked i)
    (tracked_number (board_kept new)) (value_number (board_kept new)))

pub board_item : (nodes : List Node) (table : TableSeen) (id : ℕ) (format : Format)
    (b : BoardContents) (old new : BoardRun) → IsBoardRun nodes b old → StepsBoard table b old new
    → StepsItem table (Ranks id format b) (Leaderboard old) (Leaderboard new)
board_item nodes table id format b old new is steps =
    let again = sym (board_again b (board_kept old) (member_shape nodes (board_member b) old.member is)) in
    record {
      kept = λ start image has. ap kept_board (steps.kept start image has
          ∙ ap (λ k. board_after start b k (image ∷ [])) again);
      events = λ start image has.
          board_told table id format b old new steps
          ∙ ap₂ (board_events id format) again (steps.kept start image has
          ∙ ap (λ k. board_after start b k (image ∷ [])) again);
    }
